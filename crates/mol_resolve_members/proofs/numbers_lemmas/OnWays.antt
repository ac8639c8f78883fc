-- The last declaration of a method along some classes, and what is found on the way up from one of them.
use Rattle.std.proofs.Common.{◌≡◌, ◌⊎◌, inl, inr, ℕ, ◌<◌, ◌≤◌, ◌==◌, Bool, true, false, ◌&&◌, if◌then◌else◌, List, [], ◌∷◌, ◌++◌, drop, get_or, length, reverse, Option, Some, None, Contains, find, refl, sym, ◌∙◌, ap, subst, arith, append_assoc, length-append, true≢false, eqb-true, eq-eqb}
use Rattle.std.specs.Bool.{Decides}
use Rattle.std.specs.Option.{option_or}
use Rattle.std.specs.Ordering.{is_eq}
use Rattle.std.proofs.lemmas.Bool.{and_parts, and_from}
use Rattle.std.proofs.lemmas.List.{reverse-append}
use Rattle.jav_names.specs.Ancestors.{Follows}
use Rattle.jav_names.specs.DottedNames.{Name}
use Rattle.jav_names.specs.LookUps.{is_method, nearest, way}
use Rattle.jav_names.specs.Members.{IsMethod}
use Rattle.jav_names.specs.UnitViews.{MemberKey}
use Rattle.jav_names.specs.Views.{ViewDeclaration, View, IsOrdered}
use Rattle.jav_names.proofs.AncestorsFound.{follows-first}
use Rattle.jav_names.proofs.Lists.{stands_first, stands_later, stands_where, stands_nowhere, find-found}
use Rattle.jav_names.proofs.ReadMembers.{method_tests}
use Rattle.jav_names.proofs.Ways.{same_key as keys-decide, one_above, way-is}
use Rattle.mol_resolve_rules.proofs.Stands.{from_reverse}
use Rattle.mol_resolve_members.specs.numbers.Ways.{last_along, rest_after}

-- ---- what comes after a class

rest-none : (class : ℕ) (classes : List ℕ) → rest_after class classes ≡ None → ¬ Contains classes class
rest-none class [] none there = stands_nowhere class there
rest-none class (first ∷ rest) none there =
    by (first == class) refl none (stands_where first class rest there) (rest-none class rest) where
      by : (b : Bool) → (first == class) ≡ b → (if b then Some rest else rest_after class rest) ≡ None
          → (first ≡ class) ⊎ Contains rest class
          → (rest_after class rest ≡ None → ¬ Contains rest class) → ⊥
      by true is none place more = absurd cc
      by false apart none (inl same) more = true≢false (sym (eq-eqb first class same) ∙ apart)
      by false apart none (inr later) more = more none later

rest-some : (class : ℕ) (classes after : List ℕ) → rest_after class classes ≡ Some after
    → (before : List ℕ) × (classes ≡ before ++ class ∷ after)
rest-some class [] after is = absurd cc
rest-some class (first ∷ rest) after is = by (first == class) refl is (rest-some class rest after) where
  by : (b : Bool) → (first == class) ≡ b → (if b then Some rest else rest_after class rest) ≡ Some after
      → (rest_after class rest ≡ Some after → (before : List ℕ) × (rest ≡ before ++ class ∷ after))
      → (before : List ℕ) × (first ∷ rest ≡ before ++ class ∷ after)
  by true same is more = let all : rest ≡ after = cc in ([], λ i. eqb-true first class same i ∷ all i)
  by false apart is more = let later = more is in (first ∷ later.0, ap (λ rest. first ∷ rest) later.1)

pub rest-shorter : (class : ℕ) (classes after : List ℕ) → rest_after class classes ≡ Some after → length after < length classes
rest-shorter class classes after is =
    let before = rest-some class classes after is in
    omega (arith, ap length before.1, length-append before.0 (class ∷ after))

first-and-rest : (xs : List ℕ) → 1 ≤ length xs → xs ≡ get_or xs 0 0 ∷ drop 1 xs
first-and-rest [] some = absurd (omega (arith, some))
first-and-rest (x ∷ xs) some = refl

module _ (view : View ℕ MemberKey) (ordered : IsOrdered view) where
  abbrev Declaration : Type 0
  Declaration = ViewDeclaration ℕ MemberKey

  -- ---- ways from classes on a way

  -- from a class on it a way goes on as it does, where some were met before
  follows-on : (front : List ℕ) {met : List ℕ} {class next : ℕ} {back classes : List ℕ} → Follows view met class classes
      → classes ≡ front ++ next ∷ back → (before : List ℕ) × Follows view before next (next ∷ back)
  follows-on [] {met = met} {class = class} {next = next} {back = back} follows is =
      let whole = subst (Follows view met class) is follows in
      let first = follows-first view whole in
      let same : class ≡ next = cc in
      (met, subst (λ c. Follows view met c (next ∷ back)) same whole)
  follows-on (x ∷ front) (Follows.up extends new more) is = follows-on front more (ap (drop 1) is)
  follows-on (x ∷ front) {next = next} {back = back} (Follows.end ends) is =
      absurd (omega (arith, ap length (ap (drop 1) is), length-append front (next ∷ back)))

  wider : (class : ℕ) (fewer met : List ℕ) → ((x : ℕ) → Contains fewer x → Contains met x) → (x : ℕ) → Contains (class ∷ fewer) x
      → Contains (class ∷ met) x
  wider class fewer met among x stands = by (stands_where class x fewer stands) where
    by : (class ≡ x) ⊎ Contains fewer x → Contains (class ∷ met) x
    by (inl same) = subst (Contains (class ∷ met)) same (stands_first class met)
    by (inr later) = stands_later class x met (among x later)

  -- where fewer were met before, it may go on further
  follows-further : {fewer met : List ℕ} {class : ℕ} {short long : List ℕ} → ((x : ℕ) → Contains fewer x → Contains met x)
      → Follows view met class short → Follows view fewer class long → (more : List ℕ) × (long ≡ short ++ more)
  follows-further {fewer = fewer} among (Follows.up {met = met} {way = short} {class = class} {above = above} extends new onward)
      (Follows.up {way = long} {above = next} extends' new' onward') =
      let same = one_above view ordered.classes class next above extends' extends in
      let rest = follows-further (wider class fewer met among) onward
      (subst (λ c. Follows view (class ∷ fewer) c long) same onward') in
      (rest.0, ap (λ classes. class ∷ classes) rest.1)
  follows-further {fewer = fewer} among (Follows.up {met = met} {class = class} {above = above} extends new onward) (Follows.end ends) =
      absurd (new (wider class fewer met among above (ends above extends)))
  follows-further among (Follows.end ends) long = follows-first view long

  pub way-on : (class next : ℕ) (front back : List ℕ) → way view class ≡ front ++ next ∷ back
      → (more : List ℕ) × (way view next ≡ (next ∷ back) ++ more)
  way-on class next front back is =
      let on = follows-on front (way-is view ordered.classes class) is in
      follows-further (λ x none. absurd (stands_nowhere x none)) on.1 (way-is view ordered.classes next)

  -- ---- the nearest along some classes

  module _ (name : Name) (arity : ℕ) where
    abbrev along : List ℕ → Option Declaration
    along classes = nearest view (λ (d : Declaration). d.owner) (is_method name arity) view.declarations classes

    abbrev here : ℕ → Option Declaration
    here class = find (λ (d : Declaration). is_method name arity d && is_eq (view.classes.cmp d.owner class)) view.declarations

    owned : (class : ℕ) (d : Declaration) → Decides (is_method name arity d && is_eq (view.classes.cmp d.owner class))
        (IsMethod name arity d × (d.owner ≡ class))
    owned class d = (
      λ is. let both = and_parts _ _ is in (
        (method_tests name arity d).0 both.0,
        (keys-decide ordered.classes.order d.owner class).0 both.1,
      ),
      λ h. and_from _ _ ((method_tests name arity d).1 h.0) ((keys-decide ordered.classes.order d.owner class).1 h.1),
    )

    here-is : (class : ℕ) (d : Declaration) → here class ≡ Some d
        → Contains view.declarations d × (IsMethod name arity d × (d.owner ≡ class))
    here-is class d is = find-found (λ (e : Declaration). IsMethod name arity e × (e.owner ≡ class))
        (λ (e : Declaration). is_method name arity e && is_eq (view.classes.cmp e.owner class)) (owned class) view.declarations d is

    along-append : (front back : List ℕ) → along (front ++ back) ≡ option_or (along front) (along back)
    along-append [] back = refl
    along-append (class ∷ front) back = by (here class) (along-append front back) where
      by : (o : Option Declaration) → along (front ++ back) ≡ option_or (along front) (along back)
          → option_or o (along (front ++ back)) ≡ option_or (option_or o (along front)) (along back)
      by None more = more
      by (Some d) more = refl

    -- what is found stands in the view, and is the first of its class, which is one of these
    pub record IsFound (classes : List ℕ) (d : Declaration) : Type 0 where
      pub stands : Contains view.declarations d
      pub method : IsMethod name arity d
      pub among : Contains classes d.owner
      pub first : here d.owner ≡ Some d

    pub along-found : (classes : List ℕ) (d : Declaration) → along classes ≡ Some d → IsFound classes d
    along-found [] d is = absurd cc
    along-found (class ∷ classes) d is = by (here class) refl is (along-found classes d) where
      by : (o : Option Declaration) → here class ≡ o → option_or o (along classes) ≡ Some d
          → (along classes ≡ Some d → IsFound classes d) → IsFound (class ∷ classes) d
      by None none is more =
          let later = more is in record {
            stands = later.stands;
            method = later.method;
            among = stands_later class d.owner classes later.among;
            first = later.first;
          }
      by (Some e) found is more =
          let same : Some e ≡ Some d = is in
          let there = here-is class d (found ∙ same) in record {
            stands = there.0;
            method = there.1.0;
            among = subst (Contains (class ∷ classes)) (sym there.1.1) (stands_first class classes);
            first = ap here there.1.1 ∙ found ∙ same;
          }

    none-here : (classes : List ℕ) → along classes ≡ None → (class : ℕ) → Contains classes class → here class ≡ None
    none-here [] none class there = absurd (stands_nowhere class there)
    none-here (first ∷ rest) none class there = by (here first) refl none (stands_where first class rest there) (none-here rest) where
      by : (o : Option Declaration) → here first ≡ o → option_or o (along rest) ≡ None → (first ≡ class) ⊎ Contains rest class
          → (along rest ≡ None → (class : ℕ) → Contains rest class → here class ≡ None) → here class ≡ None
      by None is none (inl same) more = ap here (sym same) ∙ is
      by None is none (inr later) more = more none class later
      by (Some d) is none place more = absurd cc

    none-along : (classes : List ℕ) → ((class : ℕ) → Contains classes class → here class ≡ None) → along classes ≡ None
    none-along [] each = refl
    none-along (first ∷ rest) each =
        ap (λ o. option_or o (along rest)) (each first (stands_first first rest))
        ∙ none-along rest (λ class there. each class (stands_later first class rest there))

    -- ---- the last along some classes

    abbrev last : List ℕ → Option Declaration
    last classes = last_along view name arity classes

    last-append : (front back : List ℕ) → last (front ++ back) ≡ option_or (last back) (last front)
    last-append front back = ap along (reverse-append front back) ∙ along-append (reverse back) (reverse front)

    none-last : (front back : List ℕ) → along back ≡ None → last (front ++ back) ≡ last front
    none-last front back none =
        last-append front back ∙ ap (λ o. option_or o (last front))
        (none-along (reverse back) (λ class there. none-here back none class (from_reverse back class there)))

    -- A way, of which so much is left.
    module _ (class : ℕ) (classes front rest : List ℕ) (up : classes ≡ way view class) (split : classes ≡ front ++ rest)
        (some : 1 ≤ length rest) (next : ℕ) (is : next ≡ get_or rest 0 0) where
      abbrev back : List ℕ
      back = drop 1 rest

      begins : rest ≡ next ∷ back
      begins = first-and-rest rest some ∙ ap (λ first. first ∷ back) (sym is)

      on : (more : List ℕ) × (way view next ≡ (next ∷ back) ++ more)
      on = way-on class next front back (sym up ∙ split ∙ ap (λ rest. front ++ rest) begins)

      along-on : along (way view next) ≡ option_or (along rest) (along on.0)
      along-on = ap along on.1 ∙ along-append (next ∷ back) on.0 ∙ ap (λ rest. option_or (along rest) (along on.0)) (sym begins)

      ends : along rest ≡ None → last classes ≡ last front
      ends none = ap last split ∙ none-last front rest none

      -- where none is found from a class on, those before it have the last
      pub last-before : along (way view next) ≡ None → last classes ≡ last front
      last-before none = ends (by (along rest) refl (sym along-on ∙ none)) where
        by : (o : Option Declaration) → along rest ≡ o → option_or o (along on.0) ≡ None → along rest ≡ None
        by None is all = is
        by (Some d) is all = absurd cc

      -- nor where what is found is met before
      pub last-elsewhere : (d : Declaration) → along (way view next) ≡ Some d → rest_after d.owner rest ≡ None
          → last classes ≡ last front
      last-elsewhere d found none = ends (by (along rest) refl (sym along-on ∙ found)) where
        by : (o : Option Declaration) → along rest ≡ o → option_or o (along on.0) ≡ Some d → along rest ≡ None
        by None is all = is
        by (Some e) is all =
            let same : Some e ≡ Some d = all in
            absurd (rest-none d.owner rest none (along-found rest d (is ∙ same)).among)

      -- else it is the last so far
      pub last-there : (d : Declaration) (after : List ℕ) → along (way view next) ≡ Some d → rest_after d.owner rest ≡ Some after
          → (longer : List ℕ) × (classes ≡ longer ++ after) × (last longer ≡ Some d)
      last-there d after found some =
          let before = rest-some d.owner rest after some in (
            front ++ (before.0 ++ d.owner ∷ []),
            split ∙ ap (λ rest. front ++ rest) (before.1 ∙ sym (append_assoc before.0 (d.owner ∷ []) after))
                ∙ sym (append_assoc front (before.0 ++ d.owner ∷ []) after),
            ap last (sym (append_assoc front before.0 (d.owner ∷ [])))
                ∙ last-append (front ++ before.0) (d.owner ∷ [])
                ∙ ap (λ o. option_or (option_or o None) (last (front ++ before.0))) (along-found (way view next) d found).first,
          )
