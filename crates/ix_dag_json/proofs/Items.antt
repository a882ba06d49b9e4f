-- The item at the front of bytes: its data, or its first error.
use Rattle.std.proofs.Common.{◌≡◌, ℕ, ◌-◌, ◌≤◌, List, [], ◌∷◌, ◌++◌, length, length-append, take, refl, sym, ◌∙◌, ap, subst, arith}
use Rattle.std.specs.Prelude.{◌≢◌, Result, Ok, Err}
use Rattle.std.proofs.lemmas.List.{take_at}
use Rattle.ix_cbor.specs.declared.fault.CborKind.{CborKind}
use Rattle.ix_cbor.specs.declared.fault.CborKind.TheVariants.{Memory}
use Rattle.ix_cbor.specs.Data.{Data}
use Rattle.ix_cid.specs.Bytes.{AreBytes}
use Rattle.ix_cbor.specs.declared.fault.CborFault.{CborFault}
use Rattle.ix_cbor.specs.Reading.{◌>>=◌, Fault, item_at, nothing_after, decoded}
use Rattle.ix_cbor.specs.Spelling.{Spells}
use Rattle.ix_cbor.specs.FirstFault.{FirstFault}
use Rattle.ix_cbor.specs.Gives.{IsFirstAs, IsFirstOf}
use Rattle.ix_cbor.specs.Fronts.{judged}
use Rattle.ix_cbor.proofs.Faults.{decoded-fault}
use Rattle.ix_cbor.proofs.Laws.{decoded-sound, decoded-complete}
use Rattle.ix_cbor.proofs.Steps.{bind_ok, ok_same, ok_data}
use Rattle.ix_dag_json.specs.declared.fault.DagJsonFault.{DagJsonFault}
use Rattle.ix_dag_json.specs.declared.fault.DagJsonFault.TheVariants as faults
use Rattle.ix_dag_json.specs.declared.output.Layout.{Layout}
use Rattle.ix_dag_json.specs.declared.output.Output.{Output}
use Rattle.ix_dag_json.specs.Written.{IsEmpty, text_as, layout_of, tokens_in, before_in, text_in}
use Rattle.ix_dag_json.specs.Place.{HasItem, Prints, ItemLacks}
use Rattle.ix_dag_json.specs.Text.{IsBlock, IsBlockText, IsBlockRefused}

-- an error of another kind, by its kind
as_first : (b : List ℕ) (kind : CborKind) (place : ℕ) → kind ≢ Memory → (place ≤ length b) × FirstFault b (record { kind = kind; left = length b - place }) → IsFirstAs b kind place
as_first b Memory place other h = absurd (other refl)
as_first b kind place other h = h

-- a block that was checked
pub checked_block : (b : List ℕ) → AreBytes b → judged b ≡ Ok tt → IsBlock b
checked_block b bytes e = let m = bind_ok (decoded b) (λ d. Ok tt) tt e in (m.0, decoded-sound b m.0 bytes m.1)

-- an error of the reading
fault_of : (r : Result Data Fault) (f : Fault) → (let seen : Data → Result (Unit {0}) Fault = λ d. Ok tt in (r >>= seen) ≡ Err f) → r ≡ Err f
fault_of (Ok x) f e = absurd cc
fault_of (Err g) f e = let here : g ≡ f = cc in ap (λ h. Err h) here

-- the error of checking a block is its first one
pub checked_fault : (b : List ℕ) (e : CborFault) → AreBytes b → e.kind ≢ Memory → (e.place ≤ length b) × (judged b ≡ Err (record { kind = e.kind; left = length b - e.place }))
    → IsFirstOf b e
checked_fault b e bytes other h = as_first b e.kind e.place other (h.0, decoded-fault b _ bytes (fault_of (decoded b) _ h.1))

-- an item after which nothing is
alone : (d : Data) (rest : List ℕ) (e : Data) → nothing_after (d, rest) ≡ Ok e → (d ≡ e) × (rest ≡ [])
alone d [] e h = (ok_same d e h, refl)
alone d (x ∷ xs) e h = absurd cc

-- a block is one item
block_item : (b : List ℕ) (d : Data) → Spells b d → item_at 512 b ≡ ok_data (d, [])
block_item b d spelled =
    let x = bind_ok (item_at 512 b) nothing_after d (decoded-complete b d spelled) in
    let same = alone x.0.0 x.0.1 d x.2 in
    x.1 ∙ ap (λ y. ok_data (y, x.0.1)) same.0 ∙ ap (λ r. ok_data (d, r)) same.1

pub block_there : (b : List ℕ) → IsBlock b → HasItem 512 b
block_there b block = (block.0, [], block_item b block.0 block.1)

-- and it spells the item's data
item_spells : (b rest : List ℕ) (d : Data) → IsBlock b → item_at 512 b ≡ Ok (d, rest) → Spells b d
item_spells b rest d block e =
    let same : block.0 ≡ d = ap (λ (x : Data × List ℕ). x.0) (ok_same (block.0, []) (d, rest) (sym (block_item b block.0 block.1) ∙ e)) in
    subst (Spells b) same block.1

-- a block that was printed
pub block_printed : (layout : Layout) (b rest s : List ℕ) (old new : Output) → IsBlock b → IsEmpty layout old → Prints 512 b old new rest → s ≡ text_in new → IsBlockText layout b s
block_printed layout b rest s old new block empty printed text =
    let ts = printed.2.0 in
    let adds = printed.2.2 in
    let before : before_in new ≡ [] = adds.before ∙ empty.before in
    let laid : layout_of new ≡ layout = adds.laid ∙ empty.laid in
    let tokens : tokens_in new ≡ ts = adds.tokens ∙ ap (λ l. l ++ ts) empty.tokens in
    let whole : text_in new ≡ text_as layout ts =
    ap (λ l. l ++ text_as (layout_of new) (tokens_in new)) before ∙ ap (λ l. text_as l (tokens_in new)) laid ∙ ap (text_as layout) tokens in
    (printed.0, item_spells b rest printed.0 block printed.1, (printed.2.1.0, printed.2.1.1, (ts, printed.2.1.2, text ∙ whole)))

-- a block of which DAG-JSON lacks a part
pub block_lacks : (b : List ℕ) (fault : DagJsonFault) → IsBlock b → ItemLacks 512 b fault → IsBlockRefused b fault
block_lacks b (faults.Block e) block lack = absurd lack.3
block_lacks b (faults.Part lacking) block lack = (lack.0, item_spells b lack.1 lack.0 block lack.2, lack.3)
block_lacks b faults.Memory block lack = tt
