-- A table of the expansions of one job over one store.
use Rattle.std.specs.Prelude.{◌≡◌, ℕ, ◌≤◌, ◌<◌, true, false, List, [], length, map, All, slice_get, slice_index_or, slice_range, Some, refl}
use Rattle.std.specs.Coded.{Coded, code_by, coded×, coded_ℕ, coded_list}
use Rattle.ix_selector.specs.Enters.{Path}
use Rattle.ix_selector.specs.Pattern.{Pattern, IsSelector}
use Rattle.ix_selector.specs.Residual.{Place, coded_places}
use Rattle.ix_selector.specs.Behind.{residual_of, residual_at}
use Rattle.ix_store.specs.Store.{Blocks, value_of}
use Rattle.ix_walk.specs.declared.subtree.PendingLink.{PendingLink}
use Rattle.ix_walk.specs.JobMeaning.{JobMeaning, coded_job}
use Rattle.ix_walk.specs.Visits.{is_malformed}
use Rattle.ix_walk.specs.Walking.{waiting, links_inside, is_barren}
use Rattle.ix_prefetch.specs.declared.link.Link.{Link}
use Rattle.ix_prefetch.specs.declared.link.LinkAt.{LinkAt}
use Rattle.ix_prefetch.specs.declared.link.LinkAt.TheVariants.{Stored, Written}
use Rattle.ix_prefetch.specs.declared.link.Pair.{Pair}
use Rattle.ix_prefetch.specs.Link.{cid_at, pending_of, IsLink, IsHashedAt}

-- the store and the job, the residuals by their numbers, and the links of all lists, one list after another
pub record ExpansionTable : Type 0 where
  pub store : Blocks
  pub job : JobMeaning
  pub residuals : List (List Place)
  pub links : List PendingLink

abbrev pub coded_pending : Coded PendingLink
coded_pending = code_by (List Place × (List ℕ × ℕ)) (coded× coded_places (coded× (coded_list coded_ℕ) coded_ℕ)) (λ f. (f.residual, (f.cid, f.depth))) (λ p. record { residual = p.0; cid = p.1.0; depth = p.1.1 }) (λ _. refl)

abbrev pub coded_table : Coded ExpansionTable
coded_table =
    code_by ((Blocks × JobMeaning) × (List (List Place) × List PendingLink)) (coded× (coded× (coded_list (coded× (coded_list coded_ℕ) (coded_list coded_ℕ))) coded_job) (coded× (coded_list coded_places) (coded_list coded_pending)))
    (λ t. ((t.store, t.job), (t.residuals, t.links))) (λ p. record { store = p.0.0; job = p.0.1; residuals = p.1.0; links = p.1.1 }) (λ _. refl)

-- this is the residual of the selector at some path
abbrev pub IsMet : Pattern → List Place → Type 0
IsMet selector places = (p : Path) × (places ≡ residual_at selector p)

-- the residual of this number
abbrev pub residual_in : ExpansionTable → ℕ → List Place
residual_in t number = slice_index_or t.residuals number []

-- a residual has this number
abbrev pub HasNumber : ExpansionTable → List Place → ℕ → Type 0
HasNumber t places number = slice_get t.residuals number ≡ Some places

-- a pair's list has the links that the definition has: those of the block at the place which the residual enters, in order.
-- Below a barren one no walk with link-visit-once visits anything, so its list may be any.
pub record IsPair (t : ExpansionTable) (p : Pair) : Type 0 where
  pub residual : p.residual < length t.residuals
  pub ordered : p.from ≤ p.to
  pub within : p.to ≤ length t.links
  pub links : p.barren ≡ false → slice_range t.links p.from p.to ≡ links_inside (residual_in t p.residual) 0 (value_of t.store (cid_at t.store p.place))
  pub malformed : p.malformed ≡ is_malformed t.store (cid_at t.store p.place)
  pub barren : p.barren ≡ true → is_barren t.store (cid_at t.store p.place) ≡ true

-- a pair is that of a place and the residual of this number
pub record IsPairOf (t : ExpansionTable) (place residual : ℕ) (p : Pair) : Type 0 where
  pub pair : IsPair t p
  pub here : p.place ≡ place
  pub number : p.residual ≡ residual

-- the link with this number: its residual and its CID
abbrev pub IsLinkAt : ExpansionTable → ℕ → LinkAt → Type 0
IsLinkAt t number (Stored residual place pair) = (residual < length t.residuals) × IsHashedAt t.store place × (slice_get t.links number ≡ Some (waiting (residual_in t residual) 0 (cid_at t.store place)))
IsLinkAt t number (Written residual cid) = (residual < length t.residuals) × (slice_get t.links number ≡ Some (waiting (residual_in t residual) 0 cid))

-- the link with this number, without its depth
abbrev pub link_at : ExpansionTable → ℕ → PendingLink
link_at t number = slice_index_or t.links number (waiting [] 0 [])

-- a table is of the job and the store of another
pub record IsTableOf (t other : ExpansionTable) : Type 0 where
  pub store : other.store ≡ t.store
  pub job : other.job ≡ t.job

-- the table, by what is kept of it
abbrev pub table_of : Blocks → JobMeaning → List (List Place) → List (List ℕ) → List Link → ExpansionTable
table_of store job residuals cids links = record { store = store; job = job; residuals = residuals; links = map (pending_of store residuals cids) links }

-- what is kept is true
pub record AreExpansions (store : Blocks) (job : JobMeaning) (residuals : List (List Place)) (cids : List (List ℕ)) (links : List Link) (pairs : List Pair) : Type 0 where
  pub selector : IsSelector job.selector
  pub root : slice_get residuals 0 ≡ Some (residual_of job.selector)
  pub met : All (IsMet job.selector) residuals
  pub linked : All (IsLink store residuals cids) links
  pub paired : All (IsPair (table_of store job residuals cids links)) pairs
