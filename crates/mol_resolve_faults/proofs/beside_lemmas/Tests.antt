-- The tests of faults between two members, by their kinds and by where they stand.
use Rattle.std.proofs.Common.{◌≡◌, Bool, true, false, ◌&&◌, ◌||◌, not, refl, sym, ap}
use Rattle.mol_resolve_rules.specs.FaultLists.{same_kind}
use Rattle.mol_resolve_rules.specs.MemberFaults.{MemberKind, a_field, a_method, a_constructor}

-- both of this kind and of one name
abbrev pub alike : MemberKind → MemberKind → MemberKind → Bool → Bool
alike kind first second named = same_kind first kind && (same_kind second kind && named)

-- ---- in one class

pub duplicates : (first second : MemberKind) (before named same : Bool) → (first ≡ a_field → second ≡ a_field → same ≡ true)
    → (before && (alike a_field first second named
    || ((alike a_method first second named || alike a_constructor first second named) && same)))
    ≡ (before && ((same_kind first second && named) && same))
duplicates a_field a_field before named same bare = by named same (bare refl refl) where
  by : (named same : Bool) → same ≡ true
      → (before && (named || false)) ≡ (before && (named && same))
  by true same is = ap (λ b. before && b) (sym is)
  by false same is = refl
duplicates a_field a_method before named same bare = refl
duplicates a_field a_constructor before named same bare = refl
duplicates a_method a_field before named same bare = refl
duplicates a_method a_method before true same bare = refl
duplicates a_method a_method before false same bare = refl
duplicates a_method a_constructor before named same bare = refl
duplicates a_constructor a_field before named same bare = refl
duplicates a_constructor a_method before named same bare = refl
duplicates a_constructor a_constructor before named same bare = refl

abbrev pub overloaded : (first second : MemberKind) (before above named many same : Bool) → Bool
overloaded first second before above named many same =
    ((alike a_method first second named && (many && (before || above))) && (many && not same))
    || (before && (alike a_constructor first second named && (many && not same)))

pub method-overloads : (first : MemberKind) (before named many same : Bool) → overloaded first a_method before false named many same
    ≡ ((same_kind first a_method && (many && named)) && (before && not same))
method-overloads a_field true named many same = refl
method-overloads a_field false named many same = refl
method-overloads a_method true true true true = refl
method-overloads a_method true true true false = refl
method-overloads a_method true true false same = refl
method-overloads a_method true false true same = refl
method-overloads a_method true false false same = refl
method-overloads a_method false true true same = refl
method-overloads a_method false true false same = refl
method-overloads a_method false false true same = refl
method-overloads a_method false false false same = refl
method-overloads a_constructor true named many same = refl
method-overloads a_constructor false named many same = refl

pub constructor-overloads : (first : MemberKind) (before named many same : Bool)
    → overloaded first a_constructor before false named many same
    ≡ ((same_kind first a_constructor && (many && named)) && (before && not same))
constructor-overloads a_field true named many same = refl
constructor-overloads a_field false named many same = refl
constructor-overloads a_method true named many same = refl
constructor-overloads a_method false named many same = refl
constructor-overloads a_constructor true true true same = refl
constructor-overloads a_constructor true true false same = refl
constructor-overloads a_constructor true false true same = refl
constructor-overloads a_constructor true false false same = refl
constructor-overloads a_constructor false true true same = refl
constructor-overloads a_constructor false true false same = refl
constructor-overloads a_constructor false false true same = refl
constructor-overloads a_constructor false false false same = refl

pub field-overloads : (first : MemberKind) (before above named many same : Bool)
    → overloaded first a_field before above named many same ≡ false
field-overloads a_field true above named many same = refl
field-overloads a_field false above named many same = refl
field-overloads a_method true above named many same = refl
field-overloads a_method false above named many same = refl
field-overloads a_constructor true above named many same = refl
field-overloads a_constructor false above named many same = refl

pub method-differs : (first : MemberKind) (before named many same : Bool)
    → ((alike a_method first a_method named && (many && (before || false))) && not same)
    ≡ ((same_kind first a_method && (many && named)) && (before && not same))
method-differs a_field before named many same = refl
method-differs a_method true true true same = refl
method-differs a_method true true false same = refl
method-differs a_method true false true same = refl
method-differs a_method true false false same = refl
method-differs a_method false true true same = refl
method-differs a_method false true false same = refl
method-differs a_method false false true same = refl
method-differs a_method false false false same = refl
method-differs a_constructor before named many same = refl

-- what is asked of methods holds of no other second one
pub other-unrelated : (first second : MemberKind) (named rest : Bool) → same_kind second a_method ≡ false
    → (alike a_method first second named && rest) ≡ false
other-unrelated a_field second named rest is = refl
other-unrelated a_method second named rest is = ap (λ b. (b && named) && rest) is
other-unrelated a_constructor second named rest is = refl

-- ---- above

pub with-false : (b : Bool) → (b && false) ≡ false
with-false true = refl
with-false false = refl

pub methods-above : (first : MemberKind) (named many test : Bool)
    → ((alike a_method first a_method named && (many && true)) && test) ≡ ((same_kind first a_method && (many && named)) && test)
methods-above a_field named many test = refl
methods-above a_method true true test = refl
methods-above a_method true false test = refl
methods-above a_method false true test = refl
methods-above a_method false false test = refl
methods-above a_constructor named many test = refl

pub method-overloads_above : (first : MemberKind) (named many same : Bool) → overloaded first a_method false true named many same
    ≡ ((same_kind first a_method && (many && named)) && not same)
method-overloads_above a_field named many same = refl
method-overloads_above a_method true true true = refl
method-overloads_above a_method true true false = refl
method-overloads_above a_method true false same = refl
method-overloads_above a_method false true same = refl
method-overloads_above a_method false false same = refl
method-overloads_above a_constructor named many same = refl

pub other-overloads_above : (first second : MemberKind) (named many same : Bool) → same_kind second a_method ≡ false
    → overloaded first second false true named many same ≡ false
other-overloads_above first second named many same is =
    ap (λ b. (b && (many && not same)) || false) (other-unrelated first second named (many && true) is)
