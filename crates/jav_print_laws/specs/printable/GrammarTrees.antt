-- What the grammar makes of tokens is printable, where the tokens are such as a source has, and no wider than the limit of number.
use Rattle.std.specs.Prelude.{ℕ, ◌≤◌, List, All, map}
use Rattle.mol_base.specs.Source.{IsSource}
use Rattle.mol_base.specs.Token.{Token}
use Rattle.mol_base.specs.Lexical.Tokens.{IsOneToken}
use Rattle.jav_tree.specs.declared.expr.Expr.{Expr}
use Rattle.jav_tree.specs.declared.stmt.Block.{Block}
use Rattle.jav_tree.specs.declared.types.TypeName.{TypeName}
use Rattle.jav_tree.specs.declared.unit.Member.{Member}
use Rattle.jav_tree.specs.declared.unit.Unit.{Unit as Source}
use Rattle.jav_tree.specs.Height.{tallest}
use Rattle.jav_tree.specs.Printable.{IsPrintable, IsPrintableMember, IsPrintableBody, IsPrintableExpr, IsPrintableType}
use Rattle.jav_tree.specs.Trees.{IsUnit, IsMember, IsBody, IsExpr, IsType}
use Rattle.jav_tree.specs.Widths.{type_width, expr_width, block_width, member_width, unit_width}

-- The text of each token is one token of its kind, as a source may have it.
abbrev pub AreOneTokens : List Token → Type 0
AreOneTokens tokens = All (λ token. IsOneToken token.kind token.text) tokens

-- The tokens of a source are such tokens.
abbrev pub SourcesHaveTokens : Type 0
SourcesHaveTokens = (bytes : List ℕ) (tokens : List Token) → IsSource bytes tokens → AreOneTokens tokens

-- A tree that the grammar makes of such tokens is printable.
abbrev pub UnitsArePrintable : Type 0
UnitsArePrintable = (limit max_height : ℕ) (u : Source) (tokens : List Token) → AreOneTokens tokens → IsUnit limit max_height u tokens → IsPrintable u

abbrev pub MembersArePrintable : Type 0
MembersArePrintable = (limit max_height : ℕ) (ms : List Member) (tokens : List Token) → AreOneTokens tokens → IsMember limit max_height ms tokens → All IsPrintableMember ms

abbrev pub BodiesArePrintable : Type 0
BodiesArePrintable = (limit max_height : ℕ) (b : Block) (tokens : List Token) → AreOneTokens tokens → IsBody limit max_height b tokens → IsPrintableBody b

abbrev pub ExprsArePrintable : Type 0
ExprsArePrintable = (limit max_height : ℕ) (e : Expr) (tokens : List Token) → AreOneTokens tokens → IsExpr limit max_height e tokens → IsPrintableExpr e

abbrev pub TypesArePrintable : Type 0
TypesArePrintable = (limit : ℕ) (to : TypeName) (tokens : List Token) → AreOneTokens tokens → IsType limit to tokens → IsPrintableType to

-- The limit of number bounds the width of a tree, whatever the tokens are.
abbrev pub UnitsAreNarrow : Type 0
UnitsAreNarrow = (limit max_height : ℕ) (u : Source) (tokens : List Token) → IsUnit limit max_height u tokens → unit_width u ≤ limit

abbrev pub MembersAreNarrow : Type 0
MembersAreNarrow = (limit max_height : ℕ) (ms : List Member) (tokens : List Token) → IsMember limit max_height ms tokens → tallest (map member_width ms) ≤ limit

abbrev pub BodiesAreNarrow : Type 0
BodiesAreNarrow = (limit max_height : ℕ) (b : Block) (tokens : List Token) → IsBody limit max_height b tokens → block_width b ≤ limit

abbrev pub ExprsAreNarrow : Type 0
ExprsAreNarrow = (limit max_height : ℕ) (e : Expr) (tokens : List Token) → IsExpr limit max_height e tokens → expr_width e ≤ limit

abbrev pub TypesAreNarrow : Type 0
TypesAreNarrow = (limit : ℕ) (to : TypeName) (tokens : List Token) → IsType limit to tokens → type_width to ≤ limit
