-- Classes without superclasses may be added to the table that knows nothing, and numbered anew.
use Rattle.std.specs.Prelude.{◌≡◌, ◌≢◌, ℕ, ◌+◌, ◌≤◌, Bool, true, false, cond, ◌&&◌, ◌||◌, length, map, List, [], ◌∷◌, codes}
use Rattle.std.specs.Prelude.{Option, None, Some, option_map}
use Rattle.std.proofs.Common.{refl, sym, ap, subst, ◌∙◌, arith, true≢false}
use Rattle.std.specs.List.{AllByRecursion, Contains, list_any}
use Rattle.std.specs.FinMap.{contains_key, entries, get, get-empty, get-insert, insert, keys, same_map}
use Rattle.std.specs.FinMap.{len, len-empty, len-entries, len-insert}
use Rattle.std.specs.Ordering.{eq_by_cmp}
use Rattle.mol_base.specs.Order.{id_cmp, id_cmp-total, id_cmp-IsAntisymmetric}
use Rattle.mol_base.specs.declared.ident.Id.{Id}
use Rattle.mol_table_rules.specs.Counting.{passing}
use Rattle.mol_table_rules.specs.Life.{is_decl_of, is_living_decl, lives}
use Rattle.mol_table_rules.specs.Mentions.{Mention, mentions}
use Rattle.mol_table_rules.specs.Program.{Program, Knowns, cell, living_at, nothing, params_at, same_id}
use Rattle.mol_table_rules.specs.Renumber.{MayRenumber}
use Rattle.mol_table_rules.specs.Tidy.{bare_constructor, tidied, tidy, tidy_value}
use Rattle.mol_values_types.specs.TokenForms.{is_dotted, is_name}
use Rattle.mol_table_rules.specs.Writes.{AreNew, known_by, with_entities, with_entity, with_value, with_values}
use Rattle.mol_values_types.specs.Order.{cell_cmp}
use Rattle.mol_values_types.specs.declared.cell.Cell.{Cell}
use Rattle.mol_values_types.specs.declared.known.Known.{Known}
use Rattle.mol_values_types.specs.declared.known.Known.TheVariants as knowns
use Rattle.mol_values_types.specs.declared.param.Param.{Param}
use Rattle.mol_values_types.specs.declared.value.Value.{Value}
use Rattle.mol_values_types.specs.Slots.{slot_of}
use Rattle.mol_table_rules.proofs.CellOrder.{cell_cmp-total, cell_cmp-IsAntisymmetric}
use Rattle.mol_table_rules.proofs.Counts.{each_found, none-some, some-same}
use Rattle.mol_table_rules.proofs.Counts.{passing-fewer}
use Rattle.mol_table_rules.proofs.Living.{same_id-own}
use Rattle.mol_table_rules.proofs.NewClasses.{IsPlainClass, classes-new}
use Rattle.mol_table_rules.proofs.Programs.{nothing-IsProgram}
use Rattle.mol_table_rules.proofs.TidyRules.{tidied-at}
use Rattle.test_table.proofs.Names.{bank_dotted, name_cart, name_desk, name_till, shop_dotted}
use Rattle.test_table.specs.Classes.{class, class_id, classes}

-- ---- programs of classes

-- a value that mentions nothing, that tidying leaves, and that makes nothing known
record IsBare (value : Value) : Type 0 where
  silent : mentions value ≡ []
  stays : (present : Id → List Param) (bare : Id → Option Id) → tidy_value present bare value ≡ value
  quiet : (known : Knowns) (id : Id) → known_by known id value ≡ known

-- a program that knows classes alone, at most so many, and has such values alone
record OfClasses (most : ℕ) (program : Program) : Type 0 where
  bare : (at : Cell) (value : Value) → get program.cells at ≡ Some value → IsBare value
  classes : (id : Id) (known : Known) → get program.known id ≡ Some known → knowns.Class ≡ known
  few : len program.known ≤ most

none : OfClasses 0 nothing
none = record {
  bare = λ at value e. absurd (none-some value (sym (get-empty cell_cmp at) ∙ e));
  classes = λ id known e. absurd (none-some known (sym (get-empty id_cmp id) ∙ e));
  few = omega (arith, len-empty id_cmp Known);
}

put-value : (most : ℕ) (program : Program) → OfClasses most program → (at : Cell) (value : Value) → IsBare value
    → OfClasses most (with_value program at value)
put-value most program of at value is = record {
  bare = λ q found e. by (eq_by_cmp cell_cmp q at) q found (sym (get-insert cell_cmp-total program.cells at value q) ∙ e);
  classes = λ id known e. of.classes id known (sym (ap (λ map. get map id) (is.quiet program.known at.id)) ∙ e);
  few = subst (λ map. len map ≤ most) (sym (is.quiet program.known at.id)) of.few;
} where
  by : (b : Bool) (q : Cell) (found : Value) → cond b (Some value) (get program.cells q) ≡ Some found → IsBare found
  by true q found e = subst IsBare (some-same value found e) is
  by false q found e = of.bare q found e

put-values : (values : List Value) → AllByRecursion IsBare values → (most : ℕ) (program : Program) → OfClasses most program → (id : Id)
    → OfClasses most (with_values program id values)
put-values [] all most program of id = of
put-values (value ∷ values) all most program of id =
    put-values values all.1 most (with_value program (cell id (slot_of value)) value)
    (put-value most program of (cell id (slot_of value)) value all.0) id

at-most : (b : Bool) (m n : ℕ) → m ≤ n → cond b m (m + 1) ≤ n + 1
at-most true m n less = omega arith
at-most false m n less = omega arith

know-class : (most : ℕ) (program : Program) → OfClasses most program → (id : Id)
    → OfClasses (most + 1) (record program { known = insert program.known id knowns.Class })
know-class most program of id = record {
  bare = of.bare;
  classes = λ q known e. by (same_id q id) q known (sym (get-insert id_cmp-total program.known id knowns.Class q) ∙ e);
  few =
      subst (λ n. n ≤ most + 1) (sym (len-insert id_cmp-total program.known id knowns.Class))
      (at-most (contains_key program.known id) (len program.known) most of.few);
} where
  by : (b : Bool) (q : Id) (known : Known) → cond b (Some knowns.Class) (get program.known q) ≡ Some known → knowns.Class ≡ known
  by true q known e = some-same knowns.Class known e
  by false q known e = of.classes q known e

class-bare : (num : ℕ) (in_package name : List ℕ) → AllByRecursion IsBare (class num in_package name).values
class-bare num in_package name = (
  record { silent = refl; stays = λ present bare. refl; quiet = λ known id. refl },
  (
    record { silent = refl; stays = λ present bare. refl; quiet = λ known id. refl },
    (
      record { silent = refl; stays = λ present bare. refl; quiet = λ known id. refl },
      (
        record { silent = refl; stays = λ present bare. refl; quiet = λ known id. refl },
        (
          record { silent = refl; stays = λ present bare. refl; quiet = λ known id. refl },
          (record { silent = refl; stays = λ present bare. refl; quiet = λ known id. refl }, tt),
        ),
      ),
    ),
  ),
)

put-class : (most : ℕ) (program : Program) → OfClasses most program → (num : ℕ) (in_package name : List ℕ)
    → OfClasses (most + 1) (with_entity program (class num in_package name))
put-class most program of num in_package name =
    put-values (class num in_package name).values (class-bare num in_package name) (most + 1)
    (record program { known = insert program.known (class_id num) knowns.Class })
    (know-class most program of (class_id num)) (class_id num)

-- ---- they may be numbered anew

module _ (program : Program) (of : OfClasses 3 program) where
  all-tidied : tidy program ≡ program
  all-tidied = λ i. record { cells = cells i; known = program.known } where
    stays : (o : Option Value) → ((value : Value) → o ≡ Some value → tidied program value ≡ value) → option_map (tidied program) o ≡ o
    stays None each = refl
    stays (Some value) each = ap Some (each value refl)

    cells : (tidy program).cells ≡ program.cells
    cells =
        same_map cell_cmp-total cell_cmp-IsAntisymmetric (tidy program).cells program.cells
        (λ at.
        tidied-at program at
        ∙ stays (get program.cells at) (λ value is. (of.bare at value is).stays (params_at program) (bare_constructor program)))

  none-lives : (method : Id) (es : List (Id × Known)) → AllByRecursion (λ e. get program.known e.0 ≡ Some e.1) es
      → list_any (is_living_decl program method) es ≡ false
  none-lives method [] all = refl
  none-lives method (e ∷ es) all =
      ap (λ known. (is_decl_of method known && living_at program e.0) || list_any (is_living_decl program method) es)
      (sym (of.classes e.0 e.1 all.0))
      ∙ none-lives method es all.1

  no-mention : (mention : Mention) → Contains [] mention → ⊥
  no-mention mention within = absurd (omega (arith, within.1))

  all-pass : (ids : List Id) → passing (λ id. true) ids ≡ length ids
  all-pass [] = refl
  all-pass (id ∷ ids) = let rest : passing (λ id. true) ids ≡ length ids = all-pass ids in omega (arith, rest)

  key-for-each : (es : List (Id × Known)) → length (map (λ e. e.0) es) ≡ length es
  key-for-each [] = refl
  key-for-each (e ∷ es) = let rest : length (map (λ e. e.0) es) ≡ length es = key-for-each es in omega (arith, rest)

  few-live : passing (lives program) (keys program.known) ≤ 3
  few-live =
      let ids : List Id = keys program.known in
      let fewer : passing (lives program) ids ≤ passing (λ id. true) ids = passing-fewer (lives program) (λ id. true) (λ id e. refl) ids in
      let each : passing (λ id. true) ids ≡ len program.known =
      all-pass ids ∙ key-for-each (entries program.known) ∙ sym (len-entries program.known) in
      omega (arith, fewer, each, of.few)

  may : MayRenumber program
  may = record {
    tidied = all-tidied;
    together = λ method apart.
        true≢false
        (sym apart.method_lives ∙ none-lives method (entries program.known) (each_found id_cmp-total id_cmp-IsAntisymmetric program.known));
    present = λ at target missing.
        let bare : IsBare missing.value = of.bare at missing.value missing.holds in
        no-mention (record { role = missing.role; id = target })
        (subst (λ (list : List Mention). Contains list (record { role = missing.role; id = target }))
        (ap mentions (bare.stays (params_at program) (bare_constructor program)) ∙ bare.silent) missing.refers);
    few = omega (arith, few-live);
  }

-- ---- the classes of the worked program

differ : (m n : ℕ) → same_id (class_id m) (class_id n) ≡ false → class_id m ≢ class_id n
differ m n e is = true≢false (sym (same_id-own (class_id m)) ∙ ap (same_id (class_id m)) is ∙ e)

plain : (num : ℕ) (in_package name : List ℕ) → is_dotted in_package ≡ true → is_name name ≡ true → IsPlainClass (class num in_package name)
plain num in_package name dotted named = record {
  in_package = in_package;
  name = name;
  entity_kind = refl;
  values = refl;
  dotted = dotted;
  named = named;
}

pub classes-added : AreNew nothing classes
classes-added =
    classes-new classes nothing nothing-IsProgram (
      plain 7 (codes "shop") (codes "Till") shop_dotted name_till,
      (plain 4 (codes "shop") (codes "Cart") shop_dotted name_cart, (plain 9 (codes "bank") (codes "Desk") bank_dotted name_desk, tt)),
    )
    (get-empty id_cmp (class_id 7), (get-empty id_cmp (class_id 4), (get-empty id_cmp (class_id 9), tt)))
    ((differ 7 4 refl, (differ 7 9 refl, tt)), ((differ 4 9 refl, tt), (tt, tt)))

abbrev pub recorded : Program
recorded = with_entities nothing classes

pub classes-may : MayRenumber recorded
classes-may =
    let first : OfClasses 1 _ = put-class 0 nothing none 7 (codes "shop") (codes "Till") in
    let second : OfClasses 2 _ = put-class 1 _ first 4 (codes "shop") (codes "Cart") in
    may recorded (put-class 2 _ second 9 (codes "bank") (codes "Desk"))
