-- Classes of a tag of which nothing is known may be added together.
use Rattle.std.proofs.Common.{Ok, Err, OnOk, Result, subst, ◌≡◌, ◌≢◌, inl, inr, ℕ, zero, suc, ◌+◌, ◌≤◌, ◌<◌, refl, sym, ap, ◌∙◌, arith, Bool, true, false, true≢false, cond, ◌&&◌, List, [], ◌∷◌, ◌++◌, None, Some}
use Rattle.std.specs.Prelude.{codes}
use Rattle.std.specs.List.{AllByRecursion}
use Rattle.std.specs.Cmp.{tied_itself}
use Rattle.std.specs.Ordering.{is_eq}
use Rattle.std.specs.FinMap.{get, get-insert}
use Rattle.std.proofs.Math.Nat.{eq-or-lt_of_le}
use Rattle.std.proofs.lemmas.Bool.{false_from_ne_true}
use Rattle.mol_base.specs.Lexical.Names.{keywords, word_literals}
use Rattle.mol_base.specs.Order.{id_cmp-total}
use Rattle.mol_base.specs.declared.ident.Id.{Id}
use Rattle.mol_table_rules.specs.Room.{AreApart}
use Rattle.mol_table_rules.specs.Program.{Program, same_id}
use Rattle.mol_table_rules.specs.Rules.{IsProgram}
use Rattle.mol_values_types.specs.TokenForms.{is_name, is_dotted}
use Rattle.mol_table_rules.specs.Writes.{AreNew, with_entity, with_entities}
use Rattle.mol_table_rules.specs.declared.entity.NewEntity.{NewEntity}
use Rattle.mol_values_types.specs.declared.known.Known.TheVariants as knowns
use Rattle.mol_values_types.proofs.AsciiNames.{ascii-name}
use Rattle.mol_table_rules.proofs.Living.{id_tied}
use Rattle.mol_table_rules.proofs.NewClasses.{IsPlainClass, classes-new}
use Rattle.bench_table.specs.Classes.{id_of, class_entity, classes}

-- ---- names

pub name-c : is_name (codes "C") ≡ true
unfolding keywords word_literals
name-c = ascii-name 67 [] refl refl (omega arith) refl

pub name-d : is_name (codes "D") ≡ true
unfolding keywords word_literals
name-d = ascii-name 68 [] refl refl (omega arith) refl

package-p : is_dotted (codes "p") ≡ true
unfolding keywords word_literals
package-p = ap (λ b. b && true) (ascii-name 112 [] refl refl (omega arith) refl)

plain : (id : Id) → IsPlainClass (class_entity id)
plain id = record { in_package = codes "p"; name = codes "C"; entity_kind = refl; values = refl; dotted = package-p; named = name-c }

-- ---- one class after another

all-push : (P : NewEntity → Type 0) (xs : List NewEntity) (x : NewEntity) → AllByRecursion P xs → P x → AllByRecursion P (xs ++ x ∷ [])
all-push P [] x all last = (last, tt)
all-push P (y ∷ xs) x all last = (all.0, all-push P xs x all.1 last)

apart-push : (xs : List NewEntity) (x : NewEntity) → AreApart xs → AllByRecursion (λ (y : NewEntity). y.id ≢ x.id) xs → AreApart (xs ++ x ∷ [])
apart-push [] x apart differ = (tt, tt)
apart-push (y ∷ xs) x apart differ = (all-push (λ (z : NewEntity). y.id ≢ z.id) xs x apart.0 differ.0, apart-push xs x apart.1 differ.1)

with-push : (xs : List NewEntity) (x : NewEntity) (program : Program) → with_entities program (xs ++ x ∷ []) ≡ with_entity (with_entities program xs) x
with-push [] x program = refl
with-push (y ∷ xs) x program = with-push xs x (with_entity program y)

all-plain : (tag : List ℕ) (count : ℕ) → AllByRecursion IsPlainClass (classes tag count)
all-plain tag zero = tt
all-plain tag (suc count) = all-push IsPlainClass (classes tag count) _ (all-plain tag count) (plain (id_of tag (suc count)))

all-unknown : (program : Program) (tag : List ℕ) → ((number : ℕ) → get program.known (id_of tag number) ≡ None) → (count : ℕ)
    → AllByRecursion (λ (entity : NewEntity). get program.known entity.id ≡ None) (classes tag count)
all-unknown program tag none zero = tt
all-unknown program tag none (suc count) =
    all-push (λ (entity : NewEntity). get program.known entity.id ≡ None) (classes tag count) _ (all-unknown program tag none count) (none (suc count))

all-before : (tag : List ℕ) (count number : ℕ) → count < number → AllByRecursion (λ (entity : NewEntity). entity.id ≢ id_of tag number) (classes tag count)
all-before tag zero number less = tt
all-before tag (suc count) number less =
    all-push (λ (entity : NewEntity). entity.id ≢ id_of tag number) (classes tag count) _ (all-before tag count number (omega arith))
    (λ e. let same : suc count ≡ number = ap (λ (id : Id). id.num) e in absurd (omega arith))

all-apart : (tag : List ℕ) (count : ℕ) → AreApart (classes tag count)
all-apart tag zero = tt
all-apart tag (suc count) = apart-push (classes tag count) _ (all-apart tag count) (all-before tag count (suc count) (omega arith))

pub fill-new : (program : Program) → IsProgram program → (tag : List ℕ) → ((number : ℕ) → get program.known (id_of tag number) ≡ None) → (count : ℕ) → AreNew program (classes tag count)
fill-new program rules tag none count = classes-new (classes tag count) program rules (all-plain tag count) (all-unknown program tag none count) (all-apart tag count)

-- ---- what is known afterwards

known-push : (program : Program) (tag : List ℕ) (count : ℕ) (id : Id)
    → get (with_entities program (classes tag (suc count))).known id ≡ cond (same_id id (id_of tag (suc count))) (Some knowns.Class) (get (with_entities program (classes tag count)).known id)
known-push program tag count id =
    ap (λ (p : Program). get p.known id) (with-push (classes tag count) (class_entity (id_of tag (suc count))) program)
    ∙ get-insert id_cmp-total (with_entities program (classes tag count)).known (id_of tag (suc count)) knowns.Class id

pub fill-known : (program : Program) (tag : List ℕ) (count number : ℕ) → 1 ≤ number → number ≤ count → get (with_entities program (classes tag count)).known (id_of tag number) ≡ Some knowns.Class
fill-known program tag zero number some within = absurd (omega arith)
fill-known program tag (suc count) number some within =
    known-push program tag count (id_of tag number) ∙ by (same_id (id_of tag number) (id_of tag (suc count))) refl (λ less. fill-known program tag count number some less)
  where
    itself : (m n : ℕ) → m ≡ suc n → same_id (id_of tag m) (id_of tag (suc n)) ≡ true
    itself m n same = ap (λ k. same_id (id_of tag k) (id_of tag (suc n))) same ∙ ap is_eq (tied_itself id_cmp-total (id_of tag (suc n)))

    by : (b : Bool) → same_id (id_of tag number) (id_of tag (suc count)) ≡ b
        → (number ≤ count → get (with_entities program (classes tag count)).known (id_of tag number) ≡ Some knowns.Class)
        → cond b (Some knowns.Class) (get (with_entities program (classes tag count)).known (id_of tag number)) ≡ Some knowns.Class
    by true e before = refl
    by false e before = before (elim (eq-or-lt_of_le within) [
      | inl same ↦ absurd (true≢false (sym (itself number count same) ∙ e))
      | inr less ↦ omega arith
    ])

pub fill-elsewhere : (program : Program) (tag : List ℕ) (count : ℕ) (id : Id) → id.tag ≢ tag → get (with_entities program (classes tag count)).known id ≡ get program.known id
fill-elsewhere program tag zero id apart = refl
fill-elsewhere program tag (suc count) id apart =
    known-push program tag count id
    ∙ ap (λ b. cond b (Some knowns.Class) (get (with_entities program (classes tag count)).known id)) (false_from_ne_true _ (λ e. apart (ap (λ (found : Id). found.tag) (id_tied id (id_of tag (suc count)) e))))
    ∙ fill-elsewhere program tag count id apart

-- ---- a class alone

pub class-new : (program : Program) → IsProgram program → (id : Id) → get program.known id ≡ None → AreNew program (class_entity id ∷ [])
class-new program rules id unknown = classes-new (class_entity id ∷ []) program rules (plain id, tt) (unknown, tt) (tt, tt)

pub class-elsewhere : (program : Program) (id q : Id) → q ≢ id → get (with_entities program (class_entity id ∷ [])).known q ≡ get program.known q
class-elsewhere program id q apart =
    get-insert id_cmp-total program.known id knowns.Class q
    ∙ ap (λ b. cond b (Some knowns.Class) (get program.known q)) (false_from_ne_true _ (λ e. apart (id_tied q id e)))

-- ---- what the steps of the loop and the calls leave

pub classes-more : (tag : List ℕ) (index : ℕ) (before after : List NewEntity) (entity : NewEntity) → before ≡ classes tag index → entity ≡ class_entity (id_of tag (index + 1)) → after ≡ before ++ entity ∷ []
    → after ≡ classes tag (index + 1)
classes-more tag index before after entity was made added =
    let next : suc index ≡ index + 1 = omega arith in
    added ∙ (λ i. was i ++ made i ∷ []) ∙ subst (λ n. classes tag index ++ class_entity (id_of tag n) ∷ [] ≡ classes tag n) next refl

pub on-ok : {A E : Type 0} {P Q : Type 0} (r : Result A E) → (P → Q) → OnOk r P → OnOk r Q
on-ok (Ok x) gives holds = gives holds
on-ok (Err e) gives holds = tt
