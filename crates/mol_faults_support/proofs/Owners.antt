-- The classes above declarations, and those between two of them.
use Rattle.std.proofs.Common.{◌≡◌, ◌⊎◌, inl, inr, ℕ, ◌+◌, ◌<◌, List, [], ◌∷◌, ◌++◌, take, get_or, length, Some, None, Contains, sym, ◌∙◌, ap, subst}
use Rattle.std.proofs.lemmas.List.{length-map, take_more}
use Rattle.std.specs.FinMap.{entries, len, len-entries}
use Rattle.std.specs.Prelude.{◌↔◌}
use Rattle.jav_names.proofs.Lists.{stands_first, stands_nowhere}
use Rattle.mol_base.specs.declared.ident.Id.{Id}
use Rattle.mol_scope_classes.proofs.classes_lemmas.KnownIds.{ids-are}
use Rattle.mol_resolve_rules.proofs.Stands.{in_front, behind, in_either}
use Rattle.mol_spell_rules.specs.Support.{IsAboveDeclaration, IsBetween, IsBetweenOwners}
use Rattle.mol_faults_support.proofs.CellsOf.{alone}
use Rattle.mol_faults_support.proofs.UpWays.{met-closed, met-is}
use Rattle.mol_faults_support.specs.Ways.{fresh_way, AreAbove, AreBetweenOwner, AreBetweenOwners, IsClosed}
use Rattle.mol_table_rules.specs.Ancestors.{way}
use Rattle.mol_table_rules.specs.Identities.{AreKnown, IsAscending}
use Rattle.mol_table_rules.specs.Program.{Program, owner_at}
use Rattle.mol_table_rules.specs.Rules.{IsProgram}
use Rattle.mol_values_types.specs.declared.known.Known.{Known}

some-same : (first second : Id) → Some first ≡ Some second → first ≡ second
some-same first second is = cc

-- ---- as many steps as there are known identities, and one

pub many : (program : Program) (ids : List Id) → IsAscending ids → AreKnown program ids → length ids ≡ len program.known
many program ids ascending known =
    ap length (ids-are program ids ascending known) ∙ length-map (entries program.known) (λ (e : Id × Known). e.0)
    ∙ sym (len-entries program.known)

module _ (program : Program) (old new : List Id) (class : Id) (is : new ≡ old ++ fresh_way program old class) where
  pub met-way-closed : IsProgram program → IsClosed program old → IsClosed program new
  met-way-closed rules closed = subst (IsClosed program) (sym is) (met-closed program rules old closed class)

  pub met-way-is : IsProgram program → IsClosed program old → (above : Id)
      → Contains new above ↔ (Contains old above ⊎ Contains (way program class) above)
  met-way-is rules closed above =
      subst (λ ids. Contains ids above ↔ (Contains old above ⊎ Contains (way program class) above)) (sym is)
      (met-is program rules old closed class above)

-- from a class alone
pub fresh-whole : (program : Program) (old new : List Id) (class : Id) → new ≡ old ++ fresh_way program old class → old ≡ []
    → new ≡ way program class
fresh-whole program old new class is none = is ∙ ap (λ ids. ids ++ fresh_way program ids class) none

pub none-closed : (program : Program) (ids : List Id) → ids ≡ [] → IsClosed program ids
none-closed program ids none class above stands is = absurd (stands_nowhere class (subst (λ xs. Contains xs class) none stands))

-- ---- of a declaration

module _ (program : Program) (declaration : Id) (old new : List Id) where
  pub owner-above : (owner : Id) → owner_at program declaration ≡ Some owner
      → ((above : Id) → Contains new above ↔ (Contains old above ⊎ Contains (way program owner) above))
      → (class : Id) → Contains new class ↔ (Contains old class ⊎ IsAboveDeclaration program declaration class)
  owner-above owner owned met class = (λ stands. to ((met class).0 stands), λ either. (met class).1 (from either)) where
    to : Contains old class ⊎ Contains (way program owner) class → Contains old class ⊎ IsAboveDeclaration program declaration class
    to (inl before) = inl before
    to (inr there) = inr (record { owner = owner; owned = owned; met = there })

    from : Contains old class ⊎ IsAboveDeclaration program declaration class → Contains old class ⊎ Contains (way program owner) class
    from (inl before) = inl before
    from (inr up) = inr (subst (λ o. Contains (way program o) class) (some-same up.owner owner (sym up.owned ∙ owned)) up.met)

  pub no-owner : owner_at program declaration ≡ None → new ≡ old → (class : Id)
      → Contains new class ↔ (Contains old class ⊎ IsAboveDeclaration program declaration class)
  no-owner none is class = (λ stands. inl (subst (λ ids. Contains ids class) is stands), from) where
    from : Contains old class ⊎ IsAboveDeclaration program declaration class → Contains new class
    from (inl before) = subst (λ ids. Contains ids class) (sym is) before
    from (inr up) = absurd (let never : None ≡ Some up.owner = sym none ∙ up.owned in cc)

-- ---- of several

pub above-none : (program : Program) (ids : List Id) → ids ≡ [] → AreAbove program [] ids
above-none program ids none class = (
  λ stands. absurd (stands_nowhere class (subst (λ xs. Contains xs class) none stands)),
  λ (up : (declaration : Id) × Contains [] declaration × IsAboveDeclaration program declaration class). absurd (stands_nowhere up.0 up.1),
)

module _ (program : Program) (declarations : List Id) (i : ℕ) (x : Id) (within : i < length declarations) (is : x ≡ get_or declarations i x)
    (old new : List Id) (above : AreAbove program (take i declarations) old)
    (met : (class : Id) → Contains new class ↔ (Contains old class ⊎ IsAboveDeclaration program x class)) where
  longer : take (i + 1) declarations ≡ take i declarations ++ x ∷ []
  longer = take_more declarations i x within ∙ ap (λ y. take i declarations ++ y ∷ []) (sym is)

  to_above : (class : Id) → Contains old class ⊎ IsAboveDeclaration program x class
      → (declaration : Id) × Contains (take i declarations ++ x ∷ []) declaration × IsAboveDeclaration program declaration class
  to_above class (inl before) =
      let up = (above class).0 before in (up.0, in_front (take i declarations) (x ∷ []) up.0 up.1, up.2)
  to_above class (inr up) = (x, behind (take i declarations) (x ∷ []) x (stands_first x []), up)

  from_above : (class declaration : Id) → IsAboveDeclaration program declaration class
      → Contains (take i declarations) declaration ⊎ Contains (x ∷ []) declaration → Contains old class ⊎ IsAboveDeclaration program x class
  from_above class declaration up (inl before) = inl ((above class).1 (declaration, before, up))
  from_above class declaration up (inr last) =
      inr (subst (λ d. IsAboveDeclaration program d class) (sym (alone x declaration last)) up)

  pub above-more : AreAbove program (take (i + 1) declarations) new
  above-more = subst (λ ds. AreAbove program ds new) (sym longer) (λ class. (
    λ stands. to_above class ((met class).0 stands),
    λ (up : (declaration : Id) × Contains (take i declarations ++ x ∷ []) declaration × IsAboveDeclaration program declaration class).
        (met class).1 (from_above class up.0 up.2 (in_either (take i declarations) (x ∷ []) up.0 up.1)),
  ))

-- ---- between two

-- those of the one way beside what was there, and then those of the other beside both
pub either-between : (none once both : List Id) (Below Above : Id → Type 0) → none ≡ []
    → ((class : Id) → Contains once class ↔ (Contains none class ⊎ Below class))
    → ((class : Id) → Contains both class ↔ (Contains once class ⊎ Above class))
    → (class : Id) → Contains both class ↔ (Below class ⊎ Above class)
either-between none once both Below Above empty below above class =
    (λ stands. to ((above class).0 stands), λ either. (above class).1 (from either)) where
      of-once : Contains none class ⊎ Below class → Below class
      of-once (inl there) = absurd (stands_nowhere class (subst (λ ids. Contains ids class) empty there))
      of-once (inr here) = here

      to : Contains once class ⊎ Above class → Below class ⊎ Above class
      to (inl there) = inl (of-once ((below class).0 there))
      to (inr here) = inr here

      from : Below class ⊎ Above class → Contains once class ⊎ Above class
      from (inl here) = inl ((below class).1 (inr here))
      from (inr here) = inr here

-- some more
pub more-between : (old cut new : List Id) (Between : Id → Type 0) → new ≡ old ++ cut
    → ((class : Id) → Contains cut class ↔ Between class) → (class : Id) → Contains new class ↔ (Contains old class ⊎ Between class)
more-between old cut new Between is between class = (
  λ stands. to (in_either old cut class (subst (λ ids. Contains ids class) is stands)),
  λ either. subst (λ ids. Contains ids class) (sym is) (from either),
) where
  to : Contains old class ⊎ Contains cut class → Contains old class ⊎ Between class
  to (inl there) = inl there
  to (inr there) = inr ((between class).0 there)

  from : Contains old class ⊎ Between class → Contains (old ++ cut) class
  from (inl there) = in_front old cut class there
  from (inr here) = behind old cut class ((between class).1 here)

module _ (program : Program) where
  abbrev Either : Id → Id → Id → Type 0
  Either first second class = IsBetween program first second class ⊎ IsBetween program second first class

  pub owner-between : (first declaration second : Id) (classes : List Id) → owner_at program declaration ≡ Some second
      → ((class : Id) → Contains classes class ↔ Either first second class) → AreBetweenOwner program first declaration classes
  owner-between first declaration second classes owned between class = (
    λ stands. (second, owned, (between class).0 stands),
    λ (is : (other : Id) × (owner_at program declaration ≡ Some other) × Either first other class).
        (between class).1 (subst (λ o. Either first o class) (some-same is.0 second (sym is.1 ∙ owned)) is.2),
  )

  pub no-owner-between : (first declaration : Id) (classes : List Id) → classes ≡ [] → owner_at program declaration ≡ None
      → AreBetweenOwner program first declaration classes
  no-owner-between first declaration classes none unowned class = (
    λ stands. absurd (stands_nowhere class (subst (λ ids. Contains ids class) none stands)),
    λ (is : (other : Id) × (owner_at program declaration ≡ Some other) × Either first other class).
        absurd (let never : None ≡ Some is.0 = sym unowned ∙ is.1 in cc),
  )

  pub owners-between : (first second owner : Id) (classes : List Id) → owner_at program first ≡ Some owner
      → AreBetweenOwner program owner second classes → AreBetweenOwners program first second classes
  owners-between first second owner classes owned between class = (
    λ stands. let found = (between class).0 stands in
        record { first_owner = owner; second_owner = found.0; first_owned = owned; second_owned = found.1; between = found.2 },
    λ (is : IsBetweenOwners program first second class). (between class).1 (
      is.second_owner,
      is.second_owned,
      subst (λ o. Either o is.second_owner class) (some-same is.first_owner owner (sym is.first_owned ∙ owned)) is.between,
    ),
  )

  pub no-owners-between : (first second : Id) (classes : List Id) → classes ≡ [] → owner_at program first ≡ None
      → AreBetweenOwners program first second classes
  no-owners-between first second classes none unowned class = (
    λ stands. absurd (stands_nowhere class (subst (λ ids. Contains ids class) none stands)),
    λ (is : IsBetweenOwners program first second class).
        absurd (let never : None ≡ Some is.first_owner = sym unowned ∙ is.first_owned in cc),
  )
