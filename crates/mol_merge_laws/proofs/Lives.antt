-- Life in one program: of what lives by a cell of its own, and of methods by their declarations.
use Rattle.std.proofs.Common.{◌≡◌, ◌∙◌, refl, sym, ap, true≢false, List, [], ◌∷◌, Option, None, Some}
use mathlib.Core.Logic.{inl, inr}
use Rattle.std.specs.Prelude.{◌⊎◌, ◌&&◌, ◌||◌, Bool, true, false, cond, is_some}
use Rattle.std.specs.List.{AllByRecursion, list_any}
use Rattle.std.specs.FinMap.{get, entries, get-entries, find}
use Rattle.std.specs.Cmp.{eq_by_cmp_equiv}
use Rattle.mol_base.specs.Order.{id_cmp, id_cmp-total, id_cmp-IsAntisymmetric}
use Rattle.mol_base.specs.declared.ident.Id.{Id}
use Rattle.mol_table_rules.specs.Life.{is_living_decl, lives_method, lives_as, lives, entity_in, is_living_entity}
use Rattle.mol_table_rules.specs.Program.{Program, Knowns, same_id, is_yes, living_at}
use Rattle.mol_table_rules.specs.Rules.{IsProgram, fills}
use Rattle.mol_values_types.specs.declared.cell.Slot.TheVariants as slots
use Rattle.mol_values_types.specs.declared.known.Known.{Known}
use Rattle.mol_values_types.specs.declared.known.Known.TheVariants as knowns
use Rattle.mol_op.specs.ChangeLaws.{none-some, some-same, id_is}
use Rattle.mol_log_rules.proofs.WhatIsLeft.{no-cell}
use Rattle.mol_table_rules.proofs.Counts.{each_found}
use Rattle.mol_table_rules.specs.Mentions.{a_method}
use Rattle.mol_values_types.specs.declared.kind.MethodKind.{MethodKind}

-- what lives by its own cell
abbrev pub plain : Known → Bool
plain knowns.Class = true
plain knowns.Field = true
plain (knowns.Decl method) = true
plain (knowns.Method kind) = false
plain (knowns.Param method) = false

abbrev pub entity_as : Program → Id → Option Known → Bool
entity_as program id known = is_some (entity_in known) && lives_as program id known

pub entity-plain : (program : Program) (id : Id) (what : Known) → plain what ≡ true
    → entity_as program id (Some what) ≡ living_at program id
entity-plain program id knowns.Class e = refl
entity-plain program id knowns.Field e = refl
entity-plain program id (knowns.Decl method) e = refl
entity-plain program id (knowns.Method kind) e = absurd (true≢false (sym e))
entity-plain program id (knowns.Param method) e = absurd (true≢false (sym e))

pub no-life : (program : Program) → IsProgram program → (id : Id) → get program.known id ≡ None → living_at program id ≡ false
no-life program rules id none = ap is_yes (no-cell program rules id slots.Live none)

pub lives-known : (program : Program) (id : Id) → is_living_entity program id ≡ true
    → (what : Known) × (entity_in (get program.known id) ≡ Some what)
lives-known program id lives = by (entity_in (get program.known id)) refl lives where
  by : (o : Option Known) → entity_in (get program.known id) ≡ o → (is_some o && lives_as program id (get program.known id)) ≡ true
      → (what : Known) × (entity_in (get program.known id) ≡ Some what)
  by None e is = absurd (true≢false (sym is))
  by (Some what) e is = (what, e)

pub entity-some : (o : Option Known) (what : Known) → entity_in o ≡ Some what → o ≡ Some what
entity-some None what e = absurd (none-some what e)
entity-some (Some (knowns.Param method)) what e = absurd (none-some what e)
entity-some (Some knowns.Class) what e = e
entity-some (Some knowns.Field) what e = e
entity-some (Some (knowns.Decl method)) what e = e
entity-some (Some (knowns.Method kind)) what e = e

pub dead-plain : (program : Program) → IsProgram program → (id : Id) (what : Known) → plain what ≡ true
    → is_living_entity program id ≡ false
    → (get program.known id ≡ None) ⊎ (get program.known id ≡ Some what) → living_at program id ≡ false
dead-plain program rules id what plain dead (inl none) = no-life program rules id none
dead-plain program rules id what plain dead (inr is) = sym (ap (entity_as program id) is ∙ entity-plain program id what plain) ∙ dead

-- ---- methods, by their declarations

-- each entry is what is known
pub entries-known : (known : Knowns) → AllByRecursion (λ e. get known e.0 ≡ Some e.1) (entries known)
entries-known = each_found id_cmp-total id_cmp-IsAntisymmetric

-- and what is known is an entry
any-found : (p : Id × Known → Bool) (es : List (Id × Known)) (q : Id) (what : Known) → find id_cmp q es ≡ Some what → p (q, what) ≡ true
    → list_any p es ≡ true
any-found p [] q what is holds = absurd (none-some what is)
any-found p (e ∷ es) q what is holds = by (same_id q e.0) refl is (λ later. any-found p es q what later holds) where
  or-true : (a : Bool) → (a || true) ≡ true
  or-true true = refl
  or-true false = refl

  by : (b : Bool) → same_id q e.0 ≡ b → cond b (Some e.1) (find id_cmp q es) ≡ Some what
      → (find id_cmp q es ≡ Some what → list_any p es ≡ true) → (p e || list_any p es) ≡ true
  by true t so more =
      let key : e.0 ≡ q = sym (id_is q e.0 t) in
      let value : e.1 ≡ what = some-same e.1 what so in
      ap (λ b. b || list_any p es) ((λ i. p (key i, value i)) ∙ holds)
  by false t so more = ap (λ b. p e || b) (more so) ∙ or-true (p e)

pub any-false : {X : Type 0} (p : X → Bool) (xs : List X) → AllByRecursion (λ x. p x ≡ false) xs → list_any p xs ≡ false
any-false p [] none = refl
any-false p (x ∷ xs) none = (λ i. none.0 i || list_any p xs) ∙ any-false p xs none.1

pub any-same : {X : Type 0} (p q : X → Bool) (xs : List X) → AllByRecursion (λ x. p x ≡ q x) xs → list_any p xs ≡ list_any q xs
any-same p q [] same = refl
any-same p q (x ∷ xs) same = (λ i. same.0 i || any-same p q xs same.1 i)

-- a method with a living declaration lives
pub lives-by : (program : Program) (method decl : Id) → get program.known decl ≡ Some (knowns.Decl method)
    → living_at program decl ≡ true → lives_method program method ≡ true
lives-by program method decl known lives =
    any-found (is_living_decl program method) (entries program.known) decl (knowns.Decl method)
    (sym (get-entries program.known decl) ∙ known)
    ((λ i. (eq_by_cmp_equiv id_cmp-total).refl method i && lives i))

-- one none of whose declarations lives does not
pub dead-by : (program : Program) (method : Id)
    → ((decl : Id) → get program.known decl ≡ Some (knowns.Decl method) → living_at program decl ≡ false)
    → lives_method program method ≡ false
dead-by program method none = any-false (is_living_decl program method) (entries program.known)
    (at (entries program.known) (entries-known program.known)) where
      one : (id : Id) (what : Known) → get program.known id ≡ Some what → is_living_decl program method (id, what) ≡ false
      one id knowns.Class is = refl
      one id knowns.Field is = refl
      one id (knowns.Method kind) is = refl
      one id (knowns.Param of) is = refl
      one id (knowns.Decl own) is = by (same_id method own) refl where
        by : (b : Bool) → same_id method own ≡ b → (same_id method own && living_at program id) ≡ false
        by true t = (λ i. t i && none id (is ∙ ap (λ m. Some (knowns.Decl m)) (sym (id_is method own t))) i)
        by false t = ap (λ b. b && living_at program id) t

      at : (part : List (Id × Known)) → AllByRecursion (λ e. get program.known e.0 ≡ Some e.1) part
          → AllByRecursion (λ e. is_living_decl program method e ≡ false) part
      at [] all = tt {0}
      at (e ∷ part) all = (one e.0 e.1 all.0, at part all.1)

-- a declaration is one of a method
method-of : (program : Program) → IsProgram program → (method decl : Id) → get program.known decl ≡ Some (knowns.Decl method)
    → (kind : MethodKind) × (get program.known method ≡ Some (knowns.Method kind))
method-of program rules method decl is = by (get program.known method) (rules.decls decl method is) where
  by : (o : Option Known) → fills decl a_method o ≡ true → (kind : MethodKind) × (o ≡ Some (knowns.Method kind))
  by None fit = absurd (true≢false (sym fit))
  by (Some knowns.Class) fit = absurd (true≢false (sym fit))
  by (Some knowns.Field) fit = absurd (true≢false (sym fit))
  by (Some (knowns.Decl own)) fit = absurd (true≢false (sym fit))
  by (Some (knowns.Param own)) fit = absurd (true≢false (sym fit))
  by (Some (knowns.Method kind)) fit = (kind, refl)

-- no declaration of a dead method lives
pub dead-decl : (program : Program) → IsProgram program → (method decl : Id) → is_living_entity program method ≡ false
    → (get program.known decl ≡ None) ⊎ (get program.known decl ≡ Some (knowns.Decl method)) → living_at program decl ≡ false
dead-decl program rules method decl dead (inl none) = no-life program rules decl none
dead-decl program rules method decl dead (inr is) = by (living_at program decl) refl where
  none : lives_method program method ≡ false
  none = sym (ap (entity_as program method) (method-of program rules method decl is).1) ∙ dead

  by : (b : Bool) → living_at program decl ≡ b → b ≡ false
  by false e = refl
  by true e = absurd (true≢false (sym (lives-by program method decl is e) ∙ none))

-- a living method has a declaration that lives
any-some : {X : Type 0} (P : X → Type 0) (p : X → Bool) (xs : List X) → AllByRecursion P xs → list_any p xs ≡ true
    → (x : X) × (P x) × (p x ≡ true)
any-some P p [] all is = absurd (true≢false (sym is))
any-some P p (x ∷ xs) all is = by (p x) refl is (any-some P p xs all.1) where
  by : (b : Bool) → p x ≡ b → (b || list_any p xs) ≡ true → (list_any p xs ≡ true → (y : _) × (P y) × (p y ≡ true))
      → (y : _) × (P y) × (p y ≡ true)
  by true e so rest = (x, all.0, e)
  by false e so rest = rest so

pub decl-lives : (program : Program) (method : Id) → lives_method program method ≡ true
    → (decl : Id) × (get program.known decl ≡ Some (knowns.Decl method)) × (living_at program decl ≡ true)
decl-lives program method lives = at some.0.0 some.0.1 some.1 some.2 where
  some : (e : Id × Known) × (get program.known e.0 ≡ Some e.1) × (is_living_decl program method e ≡ true)
  some = any-some (λ e. get program.known e.0 ≡ Some e.1) (is_living_decl program method) (entries program.known)
      (entries-known program.known) lives

  at : (id : Id) (what : Known) → get program.known id ≡ Some what → is_living_decl program method (id, what) ≡ true
      → (decl : Id) × (get program.known decl ≡ Some (knowns.Decl method)) × (living_at program decl ≡ true)
  at id knowns.Class is so = absurd (true≢false (sym so))
  at id knowns.Field is so = absurd (true≢false (sym so))
  at id (knowns.Method kind) is so = absurd (true≢false (sym so))
  at id (knowns.Param of) is so = absurd (true≢false (sym so))
  at id (knowns.Decl own) is so = by (same_id method own) refl so where
    by : (b : Bool) → same_id method own ≡ b → (b && living_at program id) ≡ true
        → (decl : Id) × (get program.known decl ≡ Some (knowns.Decl method)) × (living_at program decl ≡ true)
    by true t more = (id, is ∙ ap (λ m. Some (knowns.Decl m)) (sym (id_is method own t)), more)
    by false t more = absurd (true≢false (sym more))
