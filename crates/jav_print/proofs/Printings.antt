-- A text of the layout parses back.
use Rattle.std.proofs.Common.{◌≡◌, ℕ, List}
use Rattle.jav_tree.specs.declared.stmt.Block.{Block}
use Rattle.jav_tree.specs.declared.types.TypeName.{TypeName}
use Rattle.jav_tree.specs.declared.unit.Unit.{Unit as Source}
use Rattle.jav_tree.specs.Layout.{body_alone, unit_text}
use Rattle.jav_tree.specs.TypeText.{type_text}
use Rattle.jav_print_laws.specs.layout.ParsesBack.{UnitBack, BodyBack, TypeBack}
use Rattle.jav_print_laws.proofs.layout_lemmas.Back.{units_parse_back, bodies_parse_back, types_parse_back}

pub unit_back : (text : List ℕ) (u : Source) → text ≡ unit_text u → UnitBack text u
unit_back text u same = rw same (units_parse_back u)

pub body_back : (text : List ℕ) (b : Block) → text ≡ body_alone b → BodyBack text b
body_back text b same = rw same (bodies_parse_back b)

pub type_back : (text : List ℕ) (to : TypeName) → text ≡ type_text to → TypeBack text to
type_back text to same = rw same (types_parse_back to)
