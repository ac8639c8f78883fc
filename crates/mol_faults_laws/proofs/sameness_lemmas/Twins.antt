-- Two such programs where what the first one's living cells mention lives: what is mentioned in them is good.
use Rattle.std.proofs.Common.{Bool, Contains, List, None, Option, Some, ap, false, refl, subst, sym, true, true≢false, ◌∙◌, ◌≡◌}
use Rattle.std.specs.FinMap.{get, entries}
use Rattle.std.specs.List.{AllByRecursion, find}
use Rattle.std.specs.Option.{option_and_then}
use Rattle.std.specs.Prelude.{is_some, ◌&&◌}
use Rattle.jav_names.specs.OnValues.{StaticType, class_value, array_value}
use Rattle.jav_names.specs.Views.{ViewType, class_type, array_type}
use Rattle.mol_base.specs.declared.ident.Id.{Id}
use Rattle.mol_resolve_rules.specs.StaticTypes.{class_of_only_declaration}
use Rattle.mol_table_rules.specs.Life.{is_decl_of, is_living_decl, lives, lives_as, entity_in, is_living_entity}
use Rattle.mol_table_rules.specs.Mentions.{Mention, a_class, mentions}
use Rattle.mol_table_rules.specs.Program.{Program, value_at, living_at, owner_at, owner_in}
use Rattle.mol_table_rules.specs.Renumber.{is_class, is_living_class}
use Rattle.mol_table_rules.specs.Rules.{fills, has_many}
use Rattle.mol_values_types.specs.declared.cell.Slot.{Slot}
use Rattle.mol_values_types.specs.declared.cell.Slot.TheVariants as slots
use Rattle.mol_values_types.specs.declared.kind.MethodKind.{MethodKind}
use Rattle.mol_values_types.specs.declared.known.Known.{Known}
use Rattle.mol_values_types.specs.declared.known.Known.TheVariants as knowns
use Rattle.mol_values_types.specs.declared.value.Value.{Value}
use Rattle.mol_values_types.specs.declared.value.Value.TheVariants as values
use Rattle.mol_table_rules.proofs.Living.{id_tied}
use Rattle.mol_table_rules.proofs.TidyRules.{and-both}
use Rattle.mol_faults_laws.proofs.sameness_lemmas.Alike.{Alike, declaration-lives, no-cell, owner-same}
use Rattle.mol_faults_laws.proofs.sameness_lemmas.Entities.{entry-known, find-alike}
use Rattle.mol_faults_laws.proofs.sameness_lemmas.Lists.{all-of-each, any-found, found-item, passed-by-each}
use Rattle.mol_faults_laws.proofs.sameness_lemmas.Roles.{IsRight, role-right}

-- ---- what may be mentioned

module _ (P : Program) where
  -- what is mentioned lives, and is known as its role asks
  abbrev pub IsGood : Mention → Type 0
  IsGood mention = (lives P mention.id ≡ true) × IsRight mention.role (get P.known mention.id)

  abbrev pub AreGood : List Mention → Type 0
  AreGood = AllByRecursion IsGood

  abbrev pub IsGoodClass : Id → Type 0
  IsGoodClass class = is_living_class P class ≡ true

  abbrev pub IsGoodType : ViewType Id → Type 0
  IsGoodType (class_type class) = IsGoodClass class
  IsGoodType (array_type item) = IsGoodType item
  IsGoodType type = Unit {0}

  abbrev pub IsGoodValue : StaticType Id → Type 0
  IsGoodValue (class_value class) = IsGoodClass class
  IsGoodValue (array_value item) = IsGoodType item
  IsGoodValue type = Unit {0}

  pub good-class : (class : Id) → IsGood (record { role = a_class; id = class }) → IsGoodClass class
  good-class class good =
      let living : living_at P class ≡ true = sym (ap (lives_as P class) good.1) ∙ good.0 in
      let known : is_class (get P.known class) ≡ true = ap is_class good.1 in
      λ i. known i && living i

-- they are alike, and what the living cells of the first mention lives
pub record Twins (first second : Program) : Type 0 where
  pub alike : Alike first second
  pub there : (id : Id) (slot : Slot) (value : Value) → is_living_entity first id ≡ true → value_at first id slot ≡ Some value
      → (mention : Mention) → Contains (mentions value) mention → lives first mention.id ≡ true

module _ (P Q : Program) (twins : Twins P Q) where
  pub good-value : (id : Id) (slot : Slot) (value : Value) → lives P id ≡ true → value_at P id slot ≡ Some value
      → AreGood P (mentions value)
  good-value id slot value living holds = all-of-each (IsGood P) (mentions value) (λ mention stands. (
    twins.there id slot value entity holds mention stands,
    role-right mention.role id (get P.known mention.id)
        (passed-by-each (λ (m : Mention). fills id m.role (get P.known m.id)) (mentions value)
        (twins.alike.rules.references id slot value holds) mention stands),
  )) where
    entity : is_living_entity P id ≡ true
    entity = by (entity_in (get P.known id)) refl where
      by : (o : Option Known) → entity_in (get P.known id) ≡ o → is_living_entity P id ≡ true
      by None is = absurd cc2 where
        cc2 : ⊥
        cc2 = let none : None ≡ Some value = sym (no-cell P twins.alike.rules id slot is) ∙ holds in cc
      by (Some known) is = λ i. is_some (is i) && living i

  -- the class of an owner
  pub owner-good : (id owner : Id) → lives P id ≡ true → owner_at P id ≡ Some owner → IsGoodClass P owner
  owner-good id owner living is = by (value_at P id slots.Owner) refl is where
    by : (o : Option Value) → value_at P id slots.Owner ≡ o → owner_in o ≡ Some owner → IsGoodClass P owner
    by (Some (values.Owner x)) holds is =
        let same : x ≡ owner = cc in
        subst (IsGoodClass P) same (good-class P x (good-value id slots.Owner (values.Owner x) living holds).0)
    by None holds is = absurd cc
    by (Some (values.Live x)) holds is = absurd cc
    by (Some (values.Package x)) holds is = absurd cc
    by (Some (values.Method x)) holds is = absurd cc
    by (Some (values.Name x)) holds is = absurd cc
    by (Some (values.Super x)) holds is = absurd cc
    by (Some (values.Result x)) holds is = absurd cc
    by (Some (values.Params x)) holds is = absurd cc
    by (Some (values.Kind x)) holds is = absurd cc
    by (Some (values.Fixed x)) holds is = absurd cc
    by (Some (values.Words x)) holds is = absurd cc
    by (Some (values.Notes x)) holds is = absurd cc
    by (Some (values.Body x)) holds is = absurd cc
    by (Some (values.Value ty init)) holds is = absurd cc

  -- ---- the class in which a static method or a constructor is declared

  abbrev declares : Id → Id × Known → Bool
  declares method entry = is_decl_of method entry.1

  decl-is : (method : Id) (known : Known) → is_decl_of method known ≡ true → known ≡ knowns.Decl method
  decl-is method knowns.Class is = absurd (true≢false (sym is))
  decl-is method (knowns.Method kind) is = absurd (true≢false (sym is))
  decl-is method (knowns.Decl own) is = ap (λ (id : Id). knowns.Decl id) (sym (id_tied method own is))
  decl-is method knowns.Field is = absurd (true≢false (sym is))
  decl-is method (knowns.Param own) is = absurd (true≢false (sym is))

  -- its only declaration lives
  only-lives : (method : Id) (kind : MethodKind) → get P.known method ≡ Some (knowns.Method kind) → has_many kind ≡ false
      → lives P method ≡ true
      → (entry : Id × Known) → find (declares method) (entries P.known) ≡ Some entry → lives P entry.0 ≡ true
  only-lives method kind is single living entry found =
      let item = found-item (declares method) (entries P.known) entry found in
      let declared : get P.known entry.0 ≡ Some (knowns.Decl method) = entry-known P entry item.0
      ∙ ap (λ (k : Known). Some k) (decl-is method entry.1 item.1) in
      let other = any-found (is_living_decl P method) (entries P.known) (sym (ap (lives_as P method) is) ∙ living) in
      let parts = and-both (is_decl_of method other.0.1) (living_at P other.0.0) other.2 in
      let also : get P.known other.0.0 ≡ Some (knowns.Decl method) = entry-known P other.0 other.1
      ∙ ap (λ (k : Known). Some k) (decl-is method other.0.1 parts.0) in
      let same = twins.alike.rules.single method other.0.0 entry.0 kind is single also declared in
      declaration-lives P Q twins.alike entry.0 method declared (sym (ap (living_at P) same) ∙ parts.1)

  pub only-same : (method : Id) (kind : MethodKind) → get P.known method ≡ Some (knowns.Method kind) → has_many kind ≡ false
      → lives P method ≡ true
      → class_of_only_declaration P method ≡ class_of_only_declaration Q method
  only-same method kind is single living =
      by (find (declares method) (entries P.known)) refl
      ∙ ap (option_and_then (λ (entry : Id × Known). owner_at Q entry.0))
      (find-alike P Q twins.alike.knows (declares method) (λ id own. refl))
    where
      by : (o : Option (Id × Known)) → find (declares method) (entries P.known) ≡ o
          → class_of_only_declaration P method ≡ option_and_then (λ (entry : Id × Known). owner_at Q entry.0)
          (find (declares method) (entries P.known))
      by None found = ap (option_and_then (λ (entry : Id × Known). owner_at P entry.0)) found
          ∙ sym (ap (option_and_then (λ (entry : Id × Known). owner_at Q entry.0)) found)
      by (Some entry) found = ap (option_and_then (λ (entry : Id × Known). owner_at P entry.0)) found
          ∙ owner-same P Q twins.alike entry.0 (only-lives method kind is single living entry found)
          ∙ sym (ap (option_and_then (λ (entry : Id × Known). owner_at Q entry.0)) found)

  pub only-good : (method class : Id) (kind : MethodKind) → get P.known method ≡ Some (knowns.Method kind) → has_many kind ≡ false
      → lives P method ≡ true
      → class_of_only_declaration P method ≡ Some class → IsGoodClass P class
  only-good method class kind is single living at = by (find (declares method) (entries P.known)) refl at where
    by : (o : Option (Id × Known)) → find (declares method) (entries P.known) ≡ o
        → option_and_then (λ (entry : Id × Known). owner_at P entry.0) o ≡ Some class → IsGoodClass P class
    by None found at = absurd cc
    by (Some entry) found at = owner-good entry.0 class (only-lives method kind is single living entry found) at
