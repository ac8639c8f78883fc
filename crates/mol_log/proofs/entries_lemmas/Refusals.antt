-- Why nothing is read, where one of several lists of words is bad.
use Rattle.std.proofs.Common.{◌≡◌, ℕ, List, [], ◌∷◌, ◌++◌, Result, Ok, Err, Option, None, Some, refl, sym, subst}
use Rattle.std.specs.Result.{IsErrAnd}
use Rattle.std.proofs.lemmas.Result.{err_from_is_err_and}
use Rattle.mol_values_types.specs.declared.iblock.IBody.{IBody}
use Rattle.mol_values_types.specs.declared.iexpr.IExpr.{IExpr}
use Rattle.mol_values_types.specs.declared.itype.IType.{IType}
use Rattle.mol_log_words.specs.FirstBad.{Form, IsFirstBad}
use Rattle.mol_log_words.specs.Reads.{IsReading}
use Rattle.mol_log_words.specs.declared.fault.BadWord.{BadWord}
use Rattle.mol_log_words.specs.declared.fault.BadWord.TheVariants.{OutOfMemory, Bad}
use Rattle.mol_log_words.specs.declared.type_role.TypeRole.{TypeRole}
use Rattle.mol_log_words.specs.declared.type_role.TypeRole.TheVariants.{Super}
use Rattle.mol_log.proofs.entries_lemmas.GoodParts.{bad_before, bad_after}
use Rattle.mol_log.specs.entries.Reading.{Fails, ReadsAs}
use Rattle.mol_log.specs.entries.Spelling.{SpellsMaybe}
use Rattle.mol_log.specs.entries.Trees.{Ws, SpellsType, SpellsValue, SpellsBody, Part, type, value, body, maybe, AreGood, here}

-- what a `?` answers
pub refused : {T : Type 0} (Spells : T → Type 0) (parts : List Part) (result : Result T BadWord) (fault : BadWord)
    → IsErrAnd result (λ f. f ≡ fault) → Fails parts fault → ReadsAs Spells parts result
refused Spells parts result fault is fails =
    let p = err_from_is_err_and result is in
    subst (ReadsAs Spells parts) (sym p.1) (subst (Fails parts) (sym p.2) fails)

pub fails-before : (all more : List Part) (fault : BadWord) → Fails all fault → Fails (all ++ more) fault
fails-before all more OutOfMemory fails = tt
fails-before all more (Bad word) fails = bad_before more fails

pub fails-after : (all more : List Part) (fault : BadWord) → AreGood all → Fails more fault → Fails (all ++ more) fault
fails-after all more OutOfMemory good fails = tt
fails-after all more (Bad word) good fails = bad_after all good fails

-- ---- one list of words

module _ {T : Type 0} (Is : Form T) (part : Ws → Part)
    (bad : (words : Ws) (word : ℕ) → IsFirstBad Is words word → Fails (part words ∷ []) (Bad word)) where
  list-read : (words : Ws) (result : Result T BadWord) → IsReading Is words result
      → ReadsAs (λ tree. Is tree words) (part words ∷ []) result
  list-read words (Ok tree) is = is.tree
  list-read words (Err OutOfMemory) is = tt
  list-read words (Err (Bad word)) is = bad words word (is.bad word refl)

  list-seen : (words seen : Ws) (result : Result T BadWord) → seen ≡ words → IsReading Is seen result
      → ReadsAs (λ tree. Is tree words) (part words ∷ []) result
  list-seen words seen result same is = subst (λ ws. ReadsAs (λ tree. Is tree ws) (part ws ∷ []) result) same (list-read seen result is)

  -- one that may be absent, where it is there
  maybe-read : (words : Option Ws) (there seen : Ws) (tree : T) → words ≡ Some there → seen ≡ there → IsReading Is seen (Ok tree)
      → SpellsMaybe Is (Some tree) words
  maybe-read words there seen tree some same is =
      subst (λ ws. SpellsMaybe Is (Some tree) ws) (sym some) (list-seen there seen (Ok tree) same is)

  maybe-failed : (words : Option Ws) (there seen : Ws) (fault : BadWord) → words ≡ Some there → seen ≡ there
      → IsReading Is seen (Err fault) → Fails (maybe part words) fault
  maybe-failed words there seen fault some same is =
      subst (λ ws. Fails (maybe part ws) fault) (sym some) (list-seen there seen (Err fault) same is)

pub type-seen : (role : TypeRole) (words seen : Ws) (result : Result IType BadWord) → seen ≡ words → IsReading (SpellsType role) seen result
    → ReadsAs (λ ty. SpellsType role ty words) (type role words ∷ []) result
type-seen role = list-seen (SpellsType role) (type role) (λ words word bad. here bad)

pub parent-read : (words : Option Ws) (there seen : Ws) (ty : IType) → words ≡ Some there → seen ≡ there
    → IsReading (SpellsType Super) seen (Ok ty) → SpellsMaybe (SpellsType Super) (Some ty) words
parent-read = maybe-read (SpellsType Super) (type Super) (λ words word bad. here bad)

pub parent-failed : (words : Option Ws) (there seen : Ws) (fault : BadWord) → words ≡ Some there → seen ≡ there
    → IsReading (SpellsType Super) seen (Err fault) → Fails (maybe (type Super) words) fault
parent-failed = maybe-failed (SpellsType Super) (type Super) (λ words word bad. here bad)

pub value-read : (words : Option Ws) (there seen : Ws) (e : IExpr) → words ≡ Some there → seen ≡ there
    → IsReading SpellsValue seen (Ok e) → SpellsMaybe SpellsValue (Some e) words
value-read = maybe-read SpellsValue value (λ words word bad. here bad)

pub value-failed : (words : Option Ws) (there seen : Ws) (fault : BadWord) → words ≡ Some there → seen ≡ there
    → IsReading SpellsValue seen (Err fault) → Fails (maybe value words) fault
value-failed = maybe-failed SpellsValue value (λ words word bad. here bad)

pub body-read : (words : Option Ws) (there seen : Ws) (b : IBody) → words ≡ Some there → seen ≡ there
    → IsReading SpellsBody seen (Ok b) → SpellsMaybe SpellsBody (Some b) words
body-read = maybe-read SpellsBody body (λ words word bad. here bad)

pub body-failed : (words : Option Ws) (there seen : Ws) (fault : BadWord) → words ≡ Some there → seen ≡ there
    → IsReading SpellsBody seen (Err fault) → Fails (maybe body words) fault
body-failed = maybe-failed SpellsBody body (λ words word bad. here bad)

-- none is there
pub none-read : {T : Type 0} (Is : T → Ws → Type 0) (words : Option Ws) → words ≡ None → SpellsMaybe Is None words
none-read Is words none = subst (SpellsMaybe Is None) (sym none) tt
