-- What is wrong with a source is found within it.
use Rattle.std.proofs.Common.{◌≡◌, ℕ, ◌<◌, ◌≤◌, inl, inr, List, [], ◌∷◌, ◌++◌, length, drop, refl, subst, arith, length-drop}
use Rattle.mol_base.specs.Token.{Token}
use Rattle.mol_base.specs.Source.{Tiles, IsSource}
use Rattle.mol_base.specs.Lexical.Front.{IsWithin}
use Rattle.mol_base.specs.declared.lexical.front.Flaw.{Flaw}
use Rattle.mol_base.proofs.Ends.{front-within}
use Rattle.jav_lex.specs.Fault.{HasFlaw, IsFault as IsLexicalFault, place as place_in_bytes}
use Rattle.jav_lex.specs.declared.fault.LexFault.{LexFault}
use Rattle.jav_lex.specs.declared.fault.LexFault.TheVariants as lex
use Rattle.jav_lex.proofs.Faults.{HasFlaw-front}
use Rattle.jav_parse_unit.specs.BadToken.{Language, FaultAt, IsFault, end_of, units}
use Rattle.jav_parse_unit.specs.declared.fault.ParseFault.{ParseFault}
use Rattle.jav_source.specs.FaultTexts.{place, syntax_at}
use Rattle.jav_source.specs.Sources.{IsFaultOf}
use Rattle.jav_source.specs.declared.fault.TextFault.{TextFault}
use Rattle.jav_source.specs.declared.fault.TextFault.TheVariants.{Lex, Parse}

-- # Lexical faults

flaw_inside : (bytes : List ℕ) (flaw : Flaw) (at : ℕ) → HasFlaw bytes flaw at → at ≤ length bytes
flaw_inside bytes flaw at has =
    let len = length-drop has.at bytes in
    let within : has.offset < length (drop has.at bytes) =
    subst (IsWithin (drop has.at bytes)) (HasFlaw-front bytes flaw at has) (front-within (drop has.at bytes) (omega (arith, len, has.inside))) in
    omega (arith, len, has.inside, has.found, within)

lexical_inside : (bytes : List ℕ) (fault : LexFault) → IsLexicalFault bytes fault → place_in_bytes fault ≤ length bytes
lexical_inside bytes (lex.NotUtf8 at) is = omega (arith, is.1)
lexical_inside bytes (lex.UnicodeEscape at) is = omega (arith, is.1)
lexical_inside bytes (lex.BadChar at) is = flaw_inside bytes _ at is
lexical_inside bytes (lex.OpenString at) is = flaw_inside bytes _ at is
lexical_inside bytes (lex.OpenComment at) is = flaw_inside bytes _ at is
lexical_inside bytes (lex.BadEscape at) is = flaw_inside bytes _ at is
lexical_inside bytes (lex.FloatLiteral at) is = flaw_inside bytes _ at is
lexical_inside bytes (lex.BadNumber at) is = flaw_inside bytes _ at is
lexical_inside bytes (lex.TextBlock at) is = flaw_inside bytes _ at is
lexical_inside bytes (lex.NameTooLong at) is = flaw_inside bytes _ at is
lexical_inside bytes lex.OutOfMemory is = absurd is

-- # Syntax faults

-- a token among those of a source starts within it
starts_inside : (bytes : List ℕ) (from to : ℕ) (before : List Token) (bad : Token) (rest : List Token) → Tiles bytes from (before ++ bad ∷ rest) to → bad.start ≤ length bytes
starts_inside bytes from to [] bad rest tiles = tiles.0.inside
starts_inside bytes from to (t ∷ before) bad rest tiles = starts_inside bytes t.end to before bad rest tiles.2

-- the last token ends within it
ends_inside : (bytes : List ℕ) (from to : ℕ) (ts : List Token) → Tiles bytes from ts to → end_of ts ≤ length bytes
ends_inside bytes from to [] tiles = omega arith
ends_inside bytes from to (t ∷ []) tiles = tiles.1.inside
ends_inside bytes from to (t ∷ u ∷ rest) tiles = ends_inside bytes t.end to (u ∷ rest) tiles.2

-- the fault of a bad token is where it starts
at_start : (language : Language) (before : List Token) (bad : Token) (fault : ParseFault) → FaultAt language before bad fault → syntax_at fault ≡ bad.start
at_start language before bad fault (FaultAt.at_comment c) = refl
at_start language before bad fault (FaultAt.at_height n g) = refl
at_start language before bad fault (FaultAt.at_number n g h) = refl
at_start language before bad fault (FaultAt.at_feature n g h) = refl
at_start language before bad fault (FaultAt.at_other n g h) = refl

syntax_inside : (bytes : List ℕ) (ts : List Token) (fault : ParseFault) → IsSource bytes ts → IsFault units ts fault → syntax_at fault ≤ length bytes
syntax_inside bytes ts fault source (inl bad) =
    let tiles : Tiles bytes 0 (bad.front ++ bad.bad ∷ bad.rest) (length bytes) = subst (λ ts. Tiles bytes 0 ts (length bytes)) bad.split source.tiles in
    rw (at_start units bad.front bad.bad fault bad.fault_there) (starts_inside bytes 0 (length bytes) bad.front bad.bad bad.rest tiles)
syntax_inside bytes ts fault source (inr early) = rw early.fault_there (ends_inside bytes 0 (length bytes) ts source.tiles)

pub fault_inside : (bytes : List ℕ) (fault : TextFault) → IsFaultOf bytes fault → place fault ≤ length bytes
fault_inside bytes (Lex fault) is = lexical_inside bytes fault is.there
fault_inside bytes (Parse fault) is = syntax_inside bytes is.tokens fault is.source is.there
