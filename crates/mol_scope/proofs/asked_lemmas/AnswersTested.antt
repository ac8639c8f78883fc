-- The test of an answer tells whether it is the target.
use Rattle.std.proofs.Common.{◌≡◌, ◌≢◌, ◌⊎◌, inl, inr, ℕ, ◌==◌, true, false, Option, Some, None, sym, ◌∙◌, ap, bytes_eq, true≢false}
use Rattle.std.specs.Bool.{Decides}
use Rattle.std.proofs.lemmas.Bool.Decides.{eqb_tells}
use Rattle.std.proofs.lemmas.Slice.Eq.{bytes_eq-Decides}
use Rattle.jav_names.specs.DottedNames.{Name}
use Rattle.mol_scope.specs.asked.Answers.{same_target, is_answer}
use Rattle.mol_base.specs.declared.ident.Id.{Id}
use Rattle.mol_spell_rules.specs.references.References.{Target, class_target, field_target, method_target, param_target, default_target, local_target, outside_target}
use Rattle.mol_table_rules.proofs.Living.{same_id-own, id_tied}
use Rattle.mol_table_rules.specs.Program.{same_id}

-- identities of one kind
by-id : (make : Id → Target) (first second : Id) → (make second ≡ make first → second ≡ first)
    → Decides (same_id first second) (make second ≡ make first)
by-id make first second own = (
  λ is. ap make (sym (id_tied first second is)),
  λ same. ap (same_id first) (own same) ∙ same_id-own first,
)

by-number : (first second : ℕ) → Decides (first == second) (local_target second ≡ local_target first)
by-number first second = by (eqb_tells first second) where
  by : (((first == second) ≡ true) × (first ≡ second)) ⊎ (((first == second) ≡ false) × (first ≢ second))
      → Decides (first == second) (local_target second ≡ local_target first)
  by (inl same) = (λ is. ap (λ n. local_target n) (sym same.1), λ is. same.0)
  by (inr apart) = (λ is. absurd (true≢false (sym is ∙ apart.0)), λ same. absurd (apart.1 (let own : second ≡ first = cc in sym own)))

by-text : (first second : Name) → Decides (bytes_eq first second) (outside_target second ≡ outside_target first)
by-text first second = (
  λ is. ap (λ t. outside_target t) (sym ((bytes_eq-Decides first second).0 is)),
  λ same. (bytes_eq-Decides first second).1 (let own : second ≡ first = cc in sym own),
)

same : (target read : Target) → Decides (same_target target read) (read ≡ target)
same (class_target a) (class_target b) = by-id (λ id. class_target id) a b (λ is. cc)
same (field_target a) (field_target b) = by-id (λ id. field_target id) a b (λ is. cc)
same (method_target a) (method_target b) = by-id (λ id. method_target id) a b (λ is. cc)
same (param_target a) (param_target b) = by-id (λ id. param_target id) a b (λ is. cc)
same (default_target a) (default_target b) = by-id (λ id. default_target id) a b (λ is. cc)
same (local_target a) (local_target b) = by-number a b
same (outside_target a) (outside_target b) = by-text a b
same target read = (λ is. absurd (true≢false (sym is)), λ is. absurd cc)

pub tested : (target : Target) (read : Option Target) → Decides (is_answer target read) (read ≡ Some target)
tested target None = (λ is. absurd (true≢false (sym is)), λ is. absurd cc)
tested target (Some read) = (
  λ is. ap (λ t. Some t) ((same target read).0 is),
  λ is. (same target read).1 (let own : read ≡ target = cc in own),
)
