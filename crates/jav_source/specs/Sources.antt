-- Source files: bytes with their tokens, and the one tree of these within the limits of height and number.
use Rattle.std.specs.Prelude.{◌≡◌, ⊤, ℕ, List}
use Rattle.mol_base.specs.Token.{Token}
use Rattle.mol_base.specs.Source.{IsSource}
use Rattle.jav_lex.specs.Fault.{IsFirstFault}
use Rattle.jav_lex.specs.declared.fault.LexFault.{LexFault}
use Rattle.jav_lex.specs.declared.fault.LexFault.TheVariants as lex
use Rattle.jav_tree.specs.declared.unit.Unit.{Unit as Tree}
use Rattle.jav_tree.specs.Trees.{IsUnit}
use Rattle.jav_tree.specs.Layout.{unit_text}
use Rattle.jav_tree.specs.Parens.{unit_without_parens}
use Rattle.jav_tree.specs.WithParens.{unit_printed_height}
use Rattle.jav_parse_unit.specs.BadToken.{most_items, most_height, units, IsFault}
use Rattle.jav_parse_unit.specs.declared.fault.ParseFault.{ParseFault}
use Rattle.jav_parse_unit.specs.declared.fault.ParseFault.TheVariants as parse
use Rattle.jav_source.specs.declared.fault.TextFault.{TextFault}
use Rattle.jav_source.specs.declared.fault.TextFault.TheVariants.{Lex, Parse}
use Rattle.jav_source.specs.declared.fault.UnitFault.{UnitFault}
use Rattle.jav_source.specs.declared.fault.UnitFault.TheVariants.{Text, OutOfMemory}

-- the bytes are the source of this tree
pub record IsUnitOf (bytes : List ℕ) (unit : Tree) : Type 0 where
  pub tokens : List Token
  pub source : IsSource bytes tokens
  pub tree : IsUnit most_items most_height unit tokens

-- the fault of tokens that are those of a source
pub record IsSyntaxFault (bytes : List ℕ) (fault : ParseFault) : Type 0 where
  pub tokens : List Token
  pub source : IsSource bytes tokens
  pub there : IsFault units tokens fault

-- the bytes are the source of no tree, and this is why: a lexical fault, or else one of their tokens
abbrev pub IsFaultOf : List ℕ → TextFault → Type 0
IsFaultOf bytes (Lex fault) = IsFirstFault bytes fault
IsFaultOf bytes (Parse fault) = IsSyntaxFault bytes fault

-- the same of what a call answers; of want of memory nothing is said
abbrev pub FaultsAs : List ℕ → UnitFault → Type 0
FaultsAs bytes (Text fault) = IsFaultOf bytes fault
FaultsAs bytes OutOfMemory = ⊤

-- what a call answers at a lexical fault, or where memory runs out
abbrev pub of_lexical : LexFault → UnitFault
of_lexical lex.OutOfMemory = OutOfMemory
of_lexical fault = Text (Lex fault)

-- the same of a syntax fault
abbrev pub of_syntax : ParseFault → UnitFault
of_syntax parse.OutOfMemory = OutOfMemory
of_syntax fault = Text (Parse fault)

-- bytes have no tokens, and this is why
abbrev pub RefusesTokens : List ℕ → UnitFault → Type 0
RefusesTokens bytes (Text (Lex fault)) = IsFirstFault bytes fault
RefusesTokens bytes (Text (Parse fault)) = ⊥
RefusesTokens bytes OutOfMemory = ⊤

-- tokens have no tree, and this is why
abbrev pub RefusesTree : List Token → UnitFault → Type 0
RefusesTree tokens (Text (Lex fault)) = ⊥
RefusesTree tokens (Text (Parse fault)) = IsFault units tokens fault
RefusesTree tokens OutOfMemory = ⊤

-- a source in the one layout: the text of its tree without the parentheses that it was written with, and the height of its
-- tree as printed
pub record IsFormatted (bytes text : List ℕ) (height : ℕ) : Type 0 where
  pub unit : Tree
  pub is : IsUnitOf bytes unit
  pub layout : text ≡ unit_text (unit_without_parens unit)
  pub printed : height ≡ unit_printed_height unit

-- A text that is in the one layout already: formatting it changes nothing.
abbrev pub IsSettled : List ℕ → ℕ → Type 0
IsSettled text height = IsFormatted text text height
