-- What a function that parses ensures: the outcome of its rule, unless memory runs out.
use Rattle.std.specs.Prelude.{◌≡◌, List, Result, Ok, Err}
use Rattle.std.specs.Borrow.{Bor}
use Rattle.mol_base.specs.Token.{Token}
use Rattle.jav_lex.specs.Token.{seen}
use Rattle.jav_lex.specs.declared.token.Token as code
use Rattle.jav_parse_cursor.specs.declared.stop.Stop.{Stop}
use Rattle.jav_parse_cursor.specs.declared.stop.Stop.TheVariants.{OutOfMemory, Bad}
use Rattle.jav_parse_cursor.specs.Reading.{Outcome}

abbrev pub Stops : {A : Type 0} → Outcome A → Stop → List Token → Type 0
Stops outcome OutOfMemory new = Unit {0}
Stops outcome Bad new = outcome ≡ Err new

abbrev pub Reads : {A : Type 0} → Outcome A → Result A Stop → List Token → Type 0
Reads outcome (Ok a) new = outcome ≡ Ok (a, new)
Reads outcome (Err e) new = Stops outcome e new

-- the same of a token of the program
abbrev pub ReadsToken : Outcome Token → Result (Bor code.Token) Stop → List Token → Type 0
ReadsToken outcome (Ok t) new = outcome ≡ Ok (seen t.now, new)
ReadsToken outcome (Err e) new = Stops outcome e new

-- the same where what was read is not kept
abbrev pub ReadsOver : {A : Type 0} → Outcome A → Result (Unit {0}) Stop → List Token → Type 0
ReadsOver {A} outcome (Ok a) new = (x : A) × (outcome ≡ Ok (x, new))
ReadsOver outcome (Err e) new = Stops outcome e new
