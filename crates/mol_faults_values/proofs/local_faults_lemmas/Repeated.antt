-- Parameters clash by the names that stand twice among them.
use Rattle.std.proofs.Common.{◌≡◌, ◌⊎◌, inl, inr, ◌↔◌, ℕ, Bool, true, false, if◌then◌else◌, List, [], ◌∷◌, ◌++◌, map, length, get_or, Contains, refl, sym, ap, ◌∙◌, subst, arith, bytes_eq, append_assoc, append-nil, length-append}
use Rattle.std.specs.List.{list_any}
use Rattle.jav_names.proofs.Lists.{stands_first, stands_later, stands_where, stands_nowhere}
use Rattle.jav_names.specs.DottedNames.{Name, Names}
use Rattle.mol_faults_values.proofs.local_faults_lemmas.Named.{among-decides}
use Rattle.mol_faults_values.specs.local_faults.PartScopes.{params_scopes}
use Rattle.mol_resolve_rules.proofs.Stands.{in_front, behind, in_either}
use Rattle.mol_spell_rules.specs.LocalClashes.{declaring, IsRepeated}
use Rattle.mol_values_types.specs.declared.param.Param.{Param}

abbrev names_of : List Param → Names
names_of params = map (λ (param : Param). param.name) params

-- all parameters are in scope after them
pub params-in_scope : (params : List Param) (before : Names) → (params_scopes params before).in_scope ≡ before ++ names_of params
params-in_scope [] before = sym (append-nil before)
params-in_scope (param ∷ params) before =
    params-in_scope params (before ++ param.name ∷ []) ∙ append_assoc before (param.name ∷ []) (names_of params)

-- where a name stands in a list
split : (names : Names) (name : Name) → Contains names name → (front : Names) × (back : Names) × (names ≡ front ++ name ∷ back)
split [] name stands = absurd (stands_nowhere name stands)
split (own ∷ names) name stands = by (stands_where own name names stands) (split names name) where
  by : (own ≡ name) ⊎ Contains names name
      → (Contains names name → (front : Names) × (back : Names) × (names ≡ front ++ name ∷ back))
      → (front : Names) × (back : Names) × (own ∷ names ≡ front ++ name ∷ back)
  by (inl same) more = ([], names, ap (λ first. first ∷ names) same)
  by (inr later) more = let rest = more later in (own ∷ rest.0, rest.1, ap (λ ns. own ∷ ns) rest.2)

-- a name of these that is one of those before it
record IsLater (before names : Names) (name : Name) : Type 0 where
  front : Names
  back : Names
  stands : names ≡ front ++ name ∷ back
  earlier : Contains (before ++ front) name

clash-later : (params : List Param) (before : Names) (name : Name) → Contains (params_scopes params before).clashes name
    → IsLater before (names_of params) name
clash-later [] before name stands = absurd (stands_nowhere name stands)
clash-later (param ∷ params) before name stands =
    by (in_either (declaring param.name before).clashes (params_scopes params (before ++ param.name ∷ [])).clashes name stands)
    (clash-later params (before ++ param.name ∷ []) name) where
      first : list_any (bytes_eq param.name) before ≡ true → (param.name ≡ name) ⊎ Contains [] name
          → IsLater before (param.name ∷ names_of params) name
      first is (inl same) = record {
        front = [];
        back = names_of params;
        stands = ap (λ own. own ∷ names_of params) same;
        earlier = subst (λ names. Contains names name) (sym (append-nil before))
            (subst (Contains before) same ((among-decides param.name before).0 is));
      }
      first is (inr none) = absurd (stands_nowhere name none)

      here : (b : Bool) → list_any (bytes_eq param.name) before ≡ b → Contains (if b then param.name ∷ [] else []) name
          → IsLater before (param.name ∷ names_of params) name
      here true is now = first is (stands_where param.name name [] now)
      here false is now = absurd (stands_nowhere name now)

      by : Contains (declaring param.name before).clashes name ⊎ Contains (params_scopes params (before ++ param.name ∷ [])).clashes name
          → (Contains (params_scopes params (before ++ param.name ∷ [])).clashes name
          → IsLater (before ++ param.name ∷ []) (names_of params) name)
          → IsLater before (param.name ∷ names_of params) name
      by (inl now) more = here (list_any (bytes_eq param.name) before) refl now
      by (inr later) more =
          let rest = more later in
          record {
            front = param.name ∷ rest.front;
            back = rest.back;
            stands = ap (λ names. param.name ∷ names) rest.stands;
            earlier = subst (λ names. Contains names name) (append_assoc before (param.name ∷ []) rest.front) rest.earlier;
          }

abbrev rest_of : Names → Names
rest_of [] = []
rest_of (name ∷ names) = names

later-clash : (params : List Param) (before : Names) (name : Name) (front back : Names) → names_of params ≡ front ++ name ∷ back
    → Contains (before ++ front) name → Contains (params_scopes params before).clashes name
later-clash [] before name front back stands earlier =
    absurd (omega (arith, ap length stands, length-append front (name ∷ back)))
later-clash (param ∷ params) before name [] back stands earlier =
    let same : param.name ≡ name = ap (λ (names : Names). get_or names 0 name) stands in
    let is = (among-decides param.name before).1 (subst (Contains before) (sym same)
    (subst (λ names. Contains names name) (append-nil before) earlier)) in
    in_front (declaring param.name before).clashes (params_scopes params (before ++ param.name ∷ [])).clashes name
    (subst (λ (b : Bool). Contains (if b then param.name ∷ [] else []) name) (sym is)
    (subst (Contains (param.name ∷ [])) same (stands_first param.name [])))
later-clash (param ∷ params) before name (own ∷ front) back stands earlier =
    let same : param.name ≡ own = ap (λ (names : Names). get_or names 0 own) stands in
    behind (declaring param.name before).clashes (params_scopes params (before ++ param.name ∷ [])).clashes name
    (later-clash params (before ++ param.name ∷ []) name front back (ap rest_of stands)
    (subst (λ names. Contains names name) (sym (append_assoc before (param.name ∷ []) front))
    (subst (λ (first : Name). Contains (before ++ first ∷ front) name) (sym same) earlier)))

pub clashes-repeated : (params : List Param) (name : Name)
    → Contains (params_scopes params []).clashes name ↔ IsRepeated (names_of params) name
clashes-repeated params name = (
  λ stands.
      let found = clash-later params [] name stands in
      let earlier = split found.front name found.earlier in
      record {
        before = earlier.0;
        between = earlier.1;
        after = found.back;
        stands = found.stands ∙ ap (λ names. names ++ name ∷ found.back) earlier.2;
      },
  λ twice.
      later-clash params [] name (twice.before ++ name ∷ twice.between) twice.after twice.stands
      (behind twice.before (name ∷ twice.between) name (stands_first name twice.between)),
)
