-- The texts for why a text is not a selector.
use Rattle.std.specs.Prelude.{◌≡◌, ℕ, List, ◌++◌, codes}
use Rattle.std.specs.Fmt.{decimal}
use Rattle.ix_cbor.specs.declared.fault.CborKind.{CborKind}
use Rattle.ix_cbor.specs.declared.fault.CborKind.TheVariants as block
use Rattle.ix_selector.specs.declared.fault.Form.{Form}
use Rattle.ix_selector.specs.declared.fault.Form.TheVariants.{Conditional, InterpretAs, StopAt, MatcherField}
use Rattle.ix_selector.specs.declared.fault.SelFault.{SelFault}
use Rattle.ix_selector.specs.declared.fault.SelFault.TheVariants as sel
use Rattle.ix_selector_json.specs.declared.fault.NotationFault.{NotationFault}
use Rattle.ix_selector_json.specs.declared.fault.NotationFault.TheVariants.{Json, Repeated, Number, Hex, Block, Selector, Name, Memory}

abbrev pub block_words : CborKind → List ℕ
block_words block.Truncated = codes "truncated"
block_words block.NotShortest = codes "a number not in its shortest form"
block_words block.Indefinite = codes "a length left open"
block_words block.Tag = codes "a tag other than 42"
block_words block.Link = codes "a link without a CID"
block_words block.Simple = codes "another simple value"
block_words block.Float = codes "a float"
block_words block.KeyKind = codes "a key that is no text"
block_words block.KeyOrder = codes "keys out of order"
block_words block.Rest = codes "more bytes"
block_words block.Nesting = codes "nested too deep"
block_words block.Memory = codes "no memory"

abbrev pub form_words : Form → List ℕ
form_words Conditional = codes "conditional is not supported"
form_words InterpretAs = codes "interpret-as is not supported"
form_words StopAt = codes "stop-at is not supported"
form_words MatcherField = codes "a matcher has no field but label"

abbrev pub selector_words : SelFault → List ℕ
selector_words sel.NotMap = codes "no map where a selector should stand"
selector_words sel.Keys = codes "wrong keys"
selector_words sel.Unknown = codes "unknown key"
selector_words (sel.Unsupported form) = form_words form
selector_words sel.Kind = codes "a value of another kind"
selector_words sel.Depth = codes "depth out of range"
selector_words sel.EdgeOutside = codes "edge outside a recursion"
selector_words sel.EdgeUnguarded = codes "edge without a step in its recursion"
selector_words sel.Nesting = codes "nested too deep"
selector_words sel.Memory = codes "no memory"

abbrev pub line_of : NotationFault → List ℕ
line_of (Json place) = codes "selector: no JSON at " ++ decimal place
line_of Repeated = codes "selector: repeated key"
line_of Number = codes "selector: not an integer from -2^64 to 2^64 - 1"
line_of Hex = codes "selector: hex"
line_of (Block fault) = codes "selector: " ++ (block_words fault.kind ++ (codes " at " ++ decimal fault.place))
line_of (Selector fault) = codes "selector: " ++ selector_words fault
line_of Name = codes "selector: a name is not UTF-8"
line_of Memory = codes "memory"

-- the text begins with the line
abbrev pub Continues : List ℕ → List ℕ → Type 0
Continues line text = (more : List ℕ) × (text ≡ line ++ more)
