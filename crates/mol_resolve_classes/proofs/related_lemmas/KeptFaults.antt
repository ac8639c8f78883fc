-- What is asked of the members that are kept is what is asked of their rows.
use Rattle.std.proofs.Common.{◌≡◌, ℕ, nat_lt, ◌==◌, Bool, true, false, cond, ◌&&◌, ◌||◌, not, List, [], ◌∷◌, map, filter, length, refl, sym, ◌∙◌, ap, nat_cmp, bytes_eq}
use Rattle.std.specs.List.{list_any}
use Rattle.std.proofs.lemmas.List.{length-map}
use Rattle.std.proofs.lemmas.List.Sorted.{list_any-IsPermutation}
use Rattle.std.proofs.lemmas.Simd.{map-map}
use Rattle.jav_names.specs.seen.Kept.{view_type}
use Rattle.jav_names.specs.StaticTypes.{same_type}
use Rattle.mol_resolve_rules.specs.FaultLists.{same_kind, same_types}
use Rattle.mol_resolve_rules.specs.MemberFaults.{MemberKind, a_field, a_method, a_constructor, Row}
use Rattle.mol_resolve_classes.specs.signatures.Repeats as signatures
use Rattle.mol_resolve_classes.specs.declared.signatures.signature.Signature.{Signature}
use Rattle.mol_resolve_classes.specs.namesakes.Compared as namesakes
use Rattle.mol_resolve_classes.specs.declared.namesakes.declaration.Declaration.{Declaration}
use Rattle.mol_resolve_classes.specs.declared.namesakes.differences.Differences.{Differences}
use Rattle.mol_resolve_faults.specs.beside.Beside.{Faulty}
use Rattle.mol_resolve_faults.specs.beside.Between.{are_namesakes, faulty_below, faulty_here, is_before, repeats}
use Rattle.mol_resolve_classes.specs.related.Compared.{AreKept, MethodHeader, Seen, SeenDeclared, differing, header_of_declaration, header_of_row, is_kind, methods_in}
use Rattle.mol_resolve_classes.specs.related.Compared.{seen_declaration, seen_declared, seen_row, seen_signature}
use Rattle.mol_resolve_classes.specs.declared.related.class_members.ClassMembers.{ClassMembers}

-- ---- lists

any-mapped : {X Y : Type 0} (f : X → Y) (p : Y → Bool) (xs : List X) → list_any p (map f xs) ≡ list_any (λ x. p (f x)) xs
any-mapped f p [] = refl
any-mapped f p (x ∷ xs) = ap (λ b. p (f x) || b) (any-mapped f p xs)

any-filtered : {X : Type 0} (p q : X → Bool) (xs : List X) → list_any q (filter p xs) ≡ list_any (λ x. p x && q x) xs
any-filtered p q [] = refl
any-filtered {X} p q (x ∷ xs) = by (p x) (any-filtered p q xs) where
  by : (b : Bool) → list_any q (filter p xs) ≡ list_any (λ x. p x && q x) xs
      → list_any q (cond b (x ∷ filter p xs) (filter p xs)) ≡ ((b && q x) || list_any (λ x. p x && q x) xs)
  by true more = ap (λ b. q x || b) more
  by false more = more

-- ---- duplicates

abbrev repeats_seen : Seen → Seen → Bool
repeats_seen second first = nat_lt first.place second.place
    && ((same_kind first.kind second.kind && bytes_eq first.name second.name) && same_types nat_cmp first.params second.params)

module _ (members : ClassMembers) (rows : List (Row ℕ)) (kept : AreKept members rows) where
  pub duplicates-kept : (signature : Signature) (row : Row ℕ) → seen_signature signature ≡ seen_row row
      → list_any (signatures.repeats signature) members.signatures ≡ list_any (λ first. repeats first row) rows
  duplicates-kept signature row seen =
      sym (list_any-IsPermutation (signatures.repeats signature) kept.listed members.signatures kept.sorted)
      ∙ sym (any-mapped seen_signature (repeats_seen (seen_signature signature)) kept.listed)
      ∙ (λ i. list_any (repeats_seen (seen i)) (kept.signatures i))
      ∙ any-mapped seen_row (repeats_seen (seen_row row)) rows

-- ---- namesakes

-- of one name, and with as many parameters
abbrev are_named : MethodHeader → MethodHeader → Bool
are_named first second = length first.params == length second.params && bytes_eq first.name second.name

named-same : (n declaration : Declaration)
    → namesakes.are_namesakes n declaration ≡ are_named (header_of_declaration n) (header_of_declaration declaration)
named-same n declaration = λ i. (sym (length-map n.params.now view_type) i == sym (length-map declaration.params.now view_type) i)
    && bytes_eq n.name.now declaration.name.now

abbrev header_of : SeenDeclared → MethodHeader
header_of seen = record { name = seen.name; params = seen.params; result = seen.result; is_static = seen.is_static }

regroup : (kind named test : Bool) → (kind && (named && test)) ≡ ((kind && named) && test)
regroup true named test = refl
regroup false named test = refl

regroup_before : (kind before named test : Bool) → (kind && (before && (named && test))) ≡ ((kind && named) && (before && test))
regroup_before false before named test = refl
regroup_before true true named test = refl
regroup_before true false true test = refl
regroup_before true false false test = refl

-- some of the declarations pass a test beside one just where some rows of the kind do
module _ {S : Type 0} (see : Declaration → S) (see_row : Row ℕ → S) (kind : MemberKind) (declared : List Declaration)
    (rows : List (Row ℕ)) (same : map see declared ≡ map see_row (filter (is_kind kind) rows)) (declaration : Declaration) (row : Row ℕ)
    (seen : see declaration ≡ see_row row) where
  declared-pass : (test : S → S → Bool) → list_any (λ n. test (see n) (see declaration)) declared
      ≡ list_any (λ first. is_kind kind first && test (see_row first) (see_row row)) rows
  declared-pass test =
      sym (any-mapped see (λ n. test n (see declaration)) declared)
      ∙ (λ i. list_any (λ n. test n (seen i)) (same i))
      ∙ any-mapped see_row (λ n. test n (see_row row)) (filter (is_kind kind) rows)
      ∙ any-filtered (is_kind kind) (λ first. test (see_row first) (see_row row)) rows

-- so of namesakes
module _ (methods : List Declaration) (rows : List (Row ℕ)) (same : map header_of_declaration methods ≡ methods_in rows)
    (declaration : Declaration) (row : Row ℕ) (seen : header_of_declaration declaration ≡ header_of_row row)
    (test : MethodHeader → MethodHeader → Bool) where
  namesakes-pass : list_any (λ n. namesakes.are_namesakes n declaration
      && test (header_of_declaration n) (header_of_declaration declaration)) methods
      ≡ list_any (λ first. are_namesakes a_method first row && test (header_of_row first) (header_of_row row)) rows
  namesakes-pass =
      (λ i. list_any (λ n. named-same n declaration i && test (header_of_declaration n) (header_of_declaration declaration)) methods)
      ∙ declared-pass header_of_declaration header_of_row a_method methods rows same declaration row seen
      (λ n d. are_named n d && test n d)
      ∙ (λ i. list_any (λ first. regroup (is_kind a_method first) (are_named (header_of_row first) (header_of_row row))
      (test (header_of_row first) (header_of_row row)) i) rows)

-- and of those that stand before it
module _ (kind : MemberKind) (declared : List Declaration) (rows : List (Row ℕ))
    (same : map seen_declaration declared ≡ map seen_declared (filter (is_kind kind) rows)) (declaration : Declaration) (row : Row ℕ)
    (seen : seen_declaration declaration ≡ seen_declared row) (test : MethodHeader → MethodHeader → Bool) where
  abbrev passes : Declaration → Bool
  passes n = test (header_of_declaration n) (header_of_declaration declaration)

  earlier-pass : list_any (λ n. namesakes.are_namesakes n declaration && passes n)
      (filter (λ n. nat_lt n.place declaration.place) declared)
      ≡ list_any (λ first. are_namesakes kind first row
      && (is_before first row && test (header_of_row first) (header_of_row row))) rows
  earlier-pass =
      any-filtered (λ n. nat_lt n.place declaration.place) (λ n. namesakes.are_namesakes n declaration && passes n) declared
      ∙ (λ i. list_any (λ n. nat_lt n.place declaration.place && (named-same n declaration i && passes n)) declared)
      ∙ declared-pass seen_declaration seen_declared kind declared rows same declaration row seen
      (λ n d. nat_lt n.place d.place && (are_named (header_of n) (header_of d) && test (header_of n) (header_of d)))
      ∙ (λ i. list_any (λ first. regroup_before (is_kind kind first) (is_before first row)
      (are_named (header_of_row first) (header_of_row row)) (test (header_of_row first) (header_of_row row)) i) rows)

-- ---- faults

abbrev differ_in_types : MethodHeader → MethodHeader → Bool
differ_in_types first second = not (same_types nat_cmp first.params second.params)

abbrev differ_in_result : MethodHeader → MethodHeader → Bool
differ_in_result first second = not (same_type nat_cmp first.result second.result)

abbrev one_is_static : MethodHeader → MethodHeader → Bool
one_is_static first second = first.is_static || second.is_static

-- beside methods of other classes
module _ (methods : List Declaration) (rows : List (Row ℕ)) (same : map header_of_declaration methods ≡ methods_in rows)
    (declaration : Declaration) (row : Row ℕ) (seen : seen_declaration declaration ≡ seen_declared row) where
  pub method-differs : namesakes.differences declaration methods ≡ differing (faulty_below a_method rows row)
  method-differs = λ i. record {
    types = namesakes-pass methods rows same declaration row (ap header_of seen) differ_in_types i;
    result = namesakes-pass methods rows same declaration row (ap header_of seen) differ_in_result i;
  }

  pub method-hides : namesakes.hides_static declaration methods ≡ (faulty_below a_method rows row).static
  method-hides = namesakes-pass methods rows same declaration row (ap header_of seen) one_is_static

-- beside members of its class
module _ (members : ClassMembers) (rows : List (Row ℕ)) (kept : AreKept members rows) where
  pub methods-kept : map header_of_declaration members.methods ≡ methods_in rows
  methods-kept = sym (map-map header_of seen_declaration members.methods) ∙ ap (map header_of) kept.methods
      ∙ map-map header_of seen_declared (filter (is_kind a_method) rows)

  module _ (declaration : Declaration) (row : Row ℕ) (seen : seen_declaration declaration ≡ seen_declared row) where
    pub method-differs_before : namesakes.differences_before declaration members.methods ≡ differing (faulty_here a_method rows row)
    method-differs_before = λ i. record {
      types = earlier-pass a_method members.methods rows kept.methods declaration row seen differ_in_types i;
      result = earlier-pass a_method members.methods rows kept.methods declaration row seen differ_in_result i;
    }

    pub constructor-differs_before : (namesakes.differences_before declaration members.constructors).types
        ≡ (faulty_here a_constructor rows row).overload
    constructor-differs_before =
        earlier-pass a_constructor members.constructors rows kept.constructors declaration row seen differ_in_types

-- ---- from their parts

abbrev from_parts : Bool → Differences → Bool → Faulty
from_parts duplicate differences static =
    record { duplicate = duplicate; overload = differences.types; result = differences.result; static = static }

pub here-made : (kind : MemberKind) (rows : List (Row ℕ)) (row : Row ℕ) (duplicate : Bool) (differences : Differences)
    → duplicate ≡ list_any (λ first. repeats first row) rows → differences ≡ differing (faulty_here kind rows row)
    → from_parts duplicate differences false ≡ faulty_here kind rows row
here-made kind rows row duplicate differences repeated differs = (λ i. from_parts (repeated i) (differs i) false) ∙ by kind where
  by : (kind : MemberKind) → from_parts (list_any (λ first. repeats first row) rows) (differing (faulty_here kind rows row)) false
      ≡ faulty_here kind rows row
  by a_field = refl
  by a_method = refl
  by a_constructor = refl

pub below-made : (rows : List (Row ℕ)) (row : Row ℕ) (differences : Differences) (static : Bool)
    → differences ≡ differing (faulty_below a_method rows row) → static ≡ (faulty_below a_method rows row).static
    → from_parts false differences static ≡ faulty_below a_method rows row
below-made rows row differences static differs hides = λ i. from_parts false (differs i) (hides i)
