-- The files of a program that keeps the rules are printable, within the limit of number and without parentheses, where `super(..)` is in
-- its place.
use Rattle.std.proofs.Common.{◌≡◌, ◌⊎◌, inl, inr, zero, suc, ◌+◌, ◌≤◌, Bool, true, false, List, [], ◌∷◌, map, option_map, filter_map, Option, Some, None, Contains, get_or, refl, sym, ◌∙◌, ap, subst, true≢false, arith, Less}
use Rattle.std.specs.Prelude.{◌&&◌, All, if◌then◌else◌, is_some}
use Rattle.std.specs.Cmp.Lexicographic.{slice_cmp, nat_list_cmp_total}
use Rattle.std.specs.FinMap.{get, entries, nat_cmp-IsAntisymmetric, slice_cmp-IsAntisymmetric}
use Rattle.std.specs.List.{list_all, AllByRecursion, cons_option}
use Rattle.std.specs.List.Sorted.{IsSorted, IsStrictlySortedBy}
use Rattle.std.specs.Option.{option_map_or}
use Rattle.std.specs.Ordering.{nat_cmp, is_lt, ordering_reverse}
use Rattle.std.proofs.lemmas.Bool.{and_from, and_parts}
use Rattle.std.proofs.lemmas.List.Elements.{All-nil, All-cons}
use Rattle.mol_base.specs.Modifiers.{class_words}
use Rattle.mol_base.specs.Order.{id_cmp-total, id_cmp-IsAntisymmetric}
use Rattle.mol_base.specs.declared.ident.Id.{Id}
use Rattle.jav_print_laws.proofs.printable_lemmas.Expressions.{both}
use Rattle.jav_print_laws.proofs.printable_lemmas.Widths.{max_within}
use Rattle.jav_tree.specs.EachExpression.{map_member}
use Rattle.jav_tree.specs.Height.{tallest}
use Rattle.jav_tree.specs.Parens.{expr_without_parens, unit_without_parens}
use Rattle.jav_tree.specs.Printable.{IsPrintableMember, IsPrintable, is_parent}
use Rattle.jav_tree.specs.TokenTexts.{is_dotted_name, are_comments}
use Rattle.jav_tree.specs.Widths.{member_width, unit_width}
use Rattle.jav_tree.specs.declared.unit.Member.{Member}
use Rattle.jav_names.proofs.Lists.{stands_first, stands_later, stands_where, stands_nowhere}
use Rattle.jav_names.specs.DottedNames.{Name, Names}
use Rattle.jav_names.specs.Views.{IsKeyOrder}
use Rattle.mol_resolve_rules.proofs.Stands.{from_each, from_some}
use Rattle.mol_resolve_rules.specs.Locals.{no_locals}
use Rattle.mol_resolve_rules.specs.ProgramViews.{words_in}
use Rattle.mol_spell_rules.proofs.SetItems.{set-ascends, set-has}
use Rattle.mol_spell_rules.specs.SimpleNames.{uses_at, uses_in, needs_import, import_of, imports_in}
use Rattle.mol_spell_rules.specs.SpelledUnits.{words_at, notes_in, notes_at, writing, type_tree, parent_tree, spelled_member, class_tree, unit_tree}
use Rattle.mol_spell_rules.specs.UnitCells.{is_owned_by, member_in, members_of, printed_cells, cell_writer, references_in, references_at}
use Rattle.mol_spell_rules.specs.Writers.{full_of, Writer, hides_none, Use, importable_use, written_use, Reference}
use Rattle.mol_table_rules.proofs.CellOwners.{owner-known}
use Rattle.mol_table_rules.proofs.Counts.{none-some, some-same, each_found}
use Rattle.mol_table_rules.specs.Program.{Program, value_at, living_at}
use Rattle.mol_table_rules.specs.Renumber.{is_class, is_living_class}
use Rattle.mol_table_rules.specs.Rules.{IsProgram}
use Rattle.mol_table_rules.specs.TypeForms as types
use Rattle.mol_values_types.specs.Words.{are_words}
use Rattle.mol_values_types.proofs.Lookups.{not_absent}
use Rattle.mol_values_types.specs.declared.cell.Cell.{Cell}
use Rattle.mol_values_types.specs.declared.cell.Slot.TheVariants as slots
use Rattle.mol_values_types.specs.declared.itype.IType.{IType}
use Rattle.mol_values_types.specs.declared.known.Known.{Known}
use Rattle.mol_values_types.specs.declared.known.Known.TheVariants as knowns
use Rattle.mol_values_types.specs.declared.value.Value.{Value}
use Rattle.mol_values_types.specs.declared.value.Value.TheVariants as values
use Rattle.mol_spell_laws.proofs.KnownNames.{class-named, class-packaged}
use Rattle.mol_spell_laws.proofs.Members.{MemberFits, there-as, member-fits}
use Rattle.mol_spell_laws.proofs.TypeTrees.{is_use, are_uses, parent-fits}
use Rattle.mol_spell_laws.proofs.ValueForms.{super-is, words-is, notes-is}
use Rattle.mol_spell_laws.proofs.ValueNames.{value-names}
use Rattle.mol_spell_laws.proofs.Words.{ordered-is, class-words-are}
use Rattle.mol_spell_laws.specs.PrintableFiles.{SupersInPlace}

-- ---- lists

-- what all of a list pass each passes, and the other way round
pub each-passes : {X : Type 0} (p : X → Bool) (xs : List X) (x : X) → list_all p xs ≡ true → Contains xs x → p x ≡ true
each-passes p [] x all stands = absurd (stands_nowhere x stands)
each-passes p (y ∷ xs) x all stands = by (stands_where y x xs stands) (each-passes p xs x parts.1) where
  parts : (p y ≡ true) × (list_all p xs ≡ true)
  parts = and_parts (p y) (list_all p xs) all

  by : (y ≡ x) ⊎ Contains xs x → (Contains xs x → p x ≡ true) → p x ≡ true
  by (inl same) more = ap p (sym same) ∙ parts.0
  by (inr later) more = more later

all-pass : {X : Type 0} (p : X → Bool) (xs : List X) → ((x : X) → Contains xs x → p x ≡ true) → list_all p xs ≡ true
all-pass p [] each = refl
all-pass p (x ∷ xs) each = and_from (p x) (list_all p xs) (each x (stands_first x xs))
    (all-pass p xs (λ y stands. each y (stands_later x y xs stands)))

-- what ascends strictly ascends
not-less : (first second : Name) → slice_cmp nat_cmp first second ≡ Less → is_lt (slice_cmp nat_cmp second first) ≡ false
not-less first second less = ap is_lt (nat_list_cmp_total.antisymm second first ∙ ap ordering_reverse less)

strictly-sorted : (xs : Names) → IsStrictlySortedBy (slice_cmp nat_cmp) xs → IsSorted (slice_cmp nat_cmp) xs
unfolding IsStrictlySortedBy
strictly-sorted [] up = λ k d low within. absurd (omega arith)
strictly-sorted (x ∷ []) up = λ k d low within. absurd (omega arith)
strictly-sorted (x ∷ y ∷ xs) up = let rest = strictly-sorted (y ∷ xs) up.1 in elim [
  | zero ↦ λ d low within. not-less x y up.0.0
  | suc k ↦ λ d low within.
      let e : suc (k + 1) ≡ suc k + 1 = omega arith in
      subst (λ n. is_lt (slice_cmp nat_cmp (get_or (x ∷ y ∷ xs) n d) (get_or (y ∷ xs) k d)) ≡ false) e
      (rest k d (omega arith) (omega arith))
]

names-IsKeyOrder : IsKeyOrder (slice_cmp nat_cmp)
names-IsKeyOrder = record { total = nat_list_cmp_total; same = slice_cmp-IsAntisymmetric nat_cmp-IsAntisymmetric }

module _ (program : Program) (rules : IsProgram program) (class : Id) where
  -- ---- imports

  cell-names : (at : Cell) → are_uses program (references_at (cell_writer program [] (λ what. true) class at) at) ≡ true
  cell-names at = by (value_at program at.id at.slot) refl where
    writer : Writer
    writer = cell_writer program [] (λ what. true) class at

    of-known : (value : Value) → value_at program at.id at.slot ≡ Some value → (known : Option Known) → get program.known at.id ≡ known
        → are_uses program (references_in writer (Some value)) ≡ true
    of-known value held None is = absurd (not_absent (get program.known at.id) (owner-known program rules at (ap is_some held)) is)
    of-known value held (Some known) is = value-names writer rules at.id known at.slot value
        (rules.forms at.id at.slot known value is held) (rules.references at.id at.slot value held)

    by : (o : Option Value) → value_at program at.id at.slot ≡ o → are_uses program
        (references_in writer (value_at program at.id at.slot)) ≡ true
    by None held = ap (λ (o : Option Value). are_uses program (references_in writer o)) held
    by (Some value) held = ap (λ (o : Option Value). are_uses program (references_in writer o)) held
        ∙ of-known value held (get program.known at.id) refl

  use-dotted : (used : Use) → Contains (uses_in program class) used → is_use program (Some used) ≡ true
  use-dotted used stands =
      let cell = from_each (uses_at program class) (printed_cells program class) used stands in
      let writer = cell_writer program [] (λ what. true) class cell.0 in
      let reference = from_some (λ (reference : Reference). reference.uses) (references_at writer cell.0) used cell.2 in
      subst (λ (o : Option Use). is_use program o ≡ true) reference.2
      (each-passes (λ (reference : Reference). is_use program reference.uses) (references_at writer cell.0) reference.0
      (cell-names cell.0) reference.1)

  import-dotted : (uses : List Use) (used : Use) → is_use program (Some used) ≡ true → (name : Name)
      → import_of program class uses used ≡ Some name
      → is_dotted_name name ≡ true
  import-dotted uses (importable_use what true) dotted name is = absurd (none-some name is)
  import-dotted uses (written_use text) dotted name is = absurd (none-some name is)
  import-dotted uses (importable_use what false) dotted name is = by (needs_import program class uses what) is where
    by : (b : Bool) → (if b then Some (full_of program what) else None) ≡ Some name → is_dotted_name name ≡ true
    by true same = subst (λ (n : Name). is_dotted_name n ≡ true) (some-same (full_of program what) name same) dotted
    by false same = absurd (none-some name same)

  imports-dotted : list_all is_dotted_name (imports_in program class) ≡ true
  imports-dotted = all-pass is_dotted_name (imports_in program class) (λ name stands.
      let uses = uses_in program class in
      let found = from_some (import_of program class uses) uses name
      ((set-has (slice_cmp nat_cmp) names-IsKeyOrder (filter_map (import_of program class uses) uses) name).0 stands) in
      import-dotted uses found.0 (use-dotted found.0 found.1) name found.2)

  imports-sorted : IsSorted (slice_cmp nat_cmp) (imports_in program class)
  imports-sorted = strictly-sorted (imports_in program class)
      (set-ascends (slice_cmp nat_cmp) names-IsKeyOrder (filter_map (import_of program class (uses_in program class))
      (uses_in program class)))

  -- ---- members

  record MembersFit (ms : List Member) : Type 0 where
    printable : All IsPrintableMember ms
    narrow : tallest (map member_width ms) ≤ 255
    bare : map (map_member expr_without_parens) ms ≡ ms

  one-more : (m : Member) (ms : List Member) → MemberFits m → MembersFit ms → MembersFit (m ∷ ms)
  one-more m ms fits rest = record {
    printable = All-cons IsPrintableMember m ms fits.printable rest.printable;
    narrow = max_within _ _ 255 fits.narrow rest.narrow;
    bare = λ i. fits.bare i ∷ rest.bare i;
  }

  -- what is a member is owned by the class
  owned-by : (b : Bool) (entry member : Id × Known) → is_owned_by program class entry.0 ≡ b → (if b then Some entry else None) ≡ Some member
      → (entry ≡ member) × (is_owned_by program class entry.0 ≡ true)
  owned-by true entry member owned is = (some-same entry member is, owned)
  owned-by false entry member owned is = absurd (none-some member is)

  member-is : (entry member : Id × Known) → member_in program class entry ≡ Some member
      → (entry ≡ member) × (is_owned_by program class entry.0 ≡ true)
  member-is (id, knowns.Field) member is = owned-by (is_owned_by program class id) (id, knowns.Field) member refl is
  member-is (id, knowns.Decl method) member is = owned-by (is_owned_by program class id) (id, knowns.Decl method) member refl is
  member-is (id, knowns.Class) member is = absurd (none-some member is)
  member-is (id, knowns.Method kind) member is = absurd (none-some member is)
  member-is (id, knowns.Param method) member is = absurd (none-some member is)

  module _ (placed : SupersInPlace program) (lives : is_living_class program class ≡ true) where
    members-fit : (es : List (Id × Known)) → AllByRecursion (λ (e : Id × Known). get program.known e.0 ≡ Some e.1) es
        → MembersFit (filter_map (spelled_member program class) (filter_map (member_in program class) es))
    members-fit [] known = record { printable = All-nil IsPrintableMember; narrow = omega arith; bare = refl }
    members-fit (e ∷ es) known = by (member_in program class e) refl (members-fit es known.1) where
      members : List Member
      members = filter_map (spelled_member program class) (filter_map (member_in program class) es)

      spelled : (x : Id × Known) → member_in program class e ≡ Some x → (o : Option Member) → spelled_member program class x ≡ o
          → MembersFit members → MembersFit (cons_option o members)
      spelled x is None made rest = rest
      spelled x is (Some m) made rest =
          let own = member-is e x is in
          one-more m members (member-fits program rules class placed lives e known.0 own.1 m
          (ap (spelled_member program class) own.0 ∙ made)) rest

      by : (o : Option (Id × Known)) → member_in program class e ≡ o → MembersFit members
          → MembersFit (filter_map (spelled_member program class) (cons_option o (filter_map (member_in program class) es)))
      by None is rest = rest
      by (Some x) is rest = spelled x is (spelled_member program class x) refl rest

    all-members : MembersFit (filter_map (spelled_member program class) (members_of program class))
    all-members = members-fit (entries program.known) (each_found id_cmp-total id_cmp-IsAntisymmetric program.known)

    -- ---- the class

    class-known : get program.known class ≡ Some knowns.Class
    class-known = by (get program.known class) (and_parts (is_class (get program.known class)) (living_at program class) lives).0 where
      by : (known : Option Known) → is_class known ≡ true → known ≡ Some knowns.Class
      by None is = absurd (true≢false (sym is))
      by (Some knowns.Class) is = refl
      by (Some knowns.Field) is = absurd (true≢false (sym is))
      by (Some (knowns.Method kind)) is = absurd (true≢false (sym is))
      by (Some (knowns.Decl method)) is = absurd (true≢false (sym is))
      by (Some (knowns.Param method)) is = absurd (true≢false (sym is))

    comments : ((are_comments (notes_at program class).front ≡ true) × (are_comments (notes_at program class).head ≡ true))
        × (are_comments (notes_at program class).tail ≡ true)
    comments =
        let notes = there-as program rules slots.Notes (λ notes. values.Notes notes) notes-is class knowns.Class class-known refl in
        let last = and_parts (are_comments notes.0.front && are_comments notes.0.head) (are_comments notes.0.tail) notes.1.1 in
        let front = and_parts (are_comments notes.0.front) (are_comments notes.0.head) last.0 in
        subst (λ (o : Option Value). ((are_comments (notes_in o).front ≡ true) × (are_comments (notes_in o).head ≡ true))
        × (are_comments (notes_in o).tail ≡ true)) (sym notes.1.0) ((front.0, front.1), last.1)

    words-are : are_words class_words (words_at program class) ≡ true
    words-are =
        let words = there-as program rules slots.Words (λ words. values.Words words) words-is class knowns.Class class-known refl in
        ap (λ (o : Option Value). are_words class_words (words_in o)) words.1.0 ∙ words.1.1

    parent-is : is_parent (parent_tree program class (value_at program class slots.Super)) ≡ true
    parent-is =
        let parent = there-as program rules slots.Super (λ parent. values.Super parent) super-is class knowns.Class class-known refl in
        ap (λ (o : Option Value). is_parent (parent_tree program class o)) parent.1.0 ∙ by parent.0 parent.1.0 parent.1.1 where
          by : (parent : Option IType) → value_at program class slots.Super ≡ Some (values.Super parent)
              → option_map_or types.is_class parent true ≡ true
              → is_parent (option_map (type_tree program class (writing program class class slots.Super)) parent) ≡ true
          by None held formed = refl
          by (Some parent) held formed =
              (parent-fits (writing program class class slots.Super) rules class hides_none no_locals parent formed
              (rules.references class slots.Super (values.Super (Some parent)) held)).class

    pub unit-printable : IsPrintable (unit_tree program class)
    unit-printable = record {
      comments = comments.0.1;
      packaged = class-packaged program rules class class-known;
      imports = imports-dotted;
      ascending = imports-sorted;
      class = record {
        comments = both comments.0.0 comments.1;
        allowed = class-words-are (words_at program class) words-are;
        ordered = ordered-is class_words (words_at program class) words-are;
        named = class-named program rules class class-known;
        parent = parent-is;
        members = all-members.printable;
      };
    }

    pub unit-narrow : unit_width (unit_tree program class) ≤ 255
    unit-narrow = all-members.narrow

    pub unit-bare : unit_without_parens (unit_tree program class) ≡ unit_tree program class
    unit-bare = λ i. record (unit_tree program class) { class = record (class_tree program class) { members = all-members.bare i } }
