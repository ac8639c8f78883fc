-- What is found from a class on a way of source files, by the places of members.
use Rattle.std.proofs.Common.{◌≡◌, ℕ, ◌<◌, ◌≤◌, List, [], ◌∷◌, ◌++◌, length, get_or, Option, Some, None, option_map, sym, ◌∙◌, ap, arith, append-nil}
use Rattle.jav_names.specs.DottedNames.{Name}
use Rattle.jav_names.specs.UnitViews.{MemberKey}
use Rattle.jav_names.specs.Views.{ViewDeclaration, View, IsOrdered}
use Rattle.jav_names.proofs.UnitsViewed.{units_viewed}
use Rattle.jav_scope.specs.Answers.{declaration_ref}
use Rattle.jav_scope.specs.Entries.{units_of, view_in}
use Rattle.jav_scope.specs.declared.found.MemberRef.{MemberRef}
use Rattle.jav_scope.specs.declared.source.SourceUnit.{SourceUnit}
use Rattle.mol_resolve_members.specs.numbers.Ways.{IsWay, last_along, nearest_from, rest_after}
use Rattle.mol_resolve_members.proofs.numbers_lemmas.Answered.{from-none, from-some}
use Rattle.mol_resolve_members.proofs.numbers_lemmas.MemberKeys.{declared-owner}
use Rattle.mol_resolve_members.proofs.numbers_lemmas.OnWays.{along-found, last-before, last-elsewhere, last-there, rest-shorter}

abbrev Declaration : Type 0
Declaration = ViewDeclaration ℕ MemberKey

module _ (sources : List SourceUnit) (name : Name) (arity : ℕ) where
  abbrev view : View ℕ MemberKey
  view = view_in sources

  ordered : IsOrdered view
  ordered = units_viewed.ordered (units_of sources)

  abbrev last : List ℕ → Option MemberRef
  last classes = option_map declaration_ref (last_along view name arity classes)

  -- Of a way so much is left, and before it this is the last.
  pub record IsLeft (classes rest : List ℕ) (found : Option MemberRef) : Type 0 where
    pub front : List ℕ
    pub split : classes ≡ front ++ rest
    pub last_is : found ≡ last front

  module _ (classes rest : List ℕ) (found : Option MemberRef) (up : IsWay view classes) (left : IsLeft classes rest found)
      (some : 1 ≤ length rest) (next : ℕ) (is : next ≡ get_or rest 0 0) where
    -- where none is found from the next class on
    pub none-left : None ≡ option_map declaration_ref (nearest_from view name arity next) → found ≡ last classes
    none-left none = left.last_is ∙ ap (option_map declaration_ref)
        (sym (last-before view ordered name arity up.class classes left.front rest up.is left.split some next is
        (from-none declaration_ref (nearest_from view name arity next) none)))

    module _ (declared : MemberRef) (nearest : Some declared ≡ option_map declaration_ref (nearest_from view name arity next)) where
      there : (d : Declaration) × (nearest_from view name arity next ≡ Some d) × (declared ≡ declaration_ref d)
      there = from-some declaration_ref (nearest_from view name arity next) declared nearest

      owner : declared.unit ≡ there.0.owner
      owner = ap (λ (declared : MemberRef). declared.unit) there.2
          ∙ sym (declared-owner sources there.0 (along-found view ordered name arity _ there.0 there.1).stands)

      -- where its class was met before
      pub none-after : None ≡ rest_after declared.unit rest → found ≡ last classes
      none-after none = left.last_is ∙ ap (option_map declaration_ref)
          (sym (last-elsewhere view ordered name arity up.class classes left.front rest up.is left.split some next is there.0 there.1
          (ap (λ class. rest_after class rest) (sym owner) ∙ sym none)))

      -- and where it is further on
      pub left-after : (after : List ℕ) → Some after ≡ rest_after declared.unit rest → IsLeft classes after (Some declared)
      left-after after further =
          let on = last-there view ordered name arity up.class classes left.front rest up.is left.split some next is there.0 after there.1
          (ap (λ class. rest_after class rest) (sym owner) ∙ sym further) in
          record {
            front = on.0;
            split = on.1;
            last_is = ap (λ declared. Some declared) there.2 ∙ ap (option_map declaration_ref) (sym on.2);
          }

      pub shorter : (after : List ℕ) → Some after ≡ rest_after declared.unit rest → length after < length rest
      shorter after further = rest-shorter declared.unit rest after (sym further)

  pub none-more : (classes rest : List ℕ) (found : Option MemberRef) → IsLeft classes rest found → length rest < 1
      → found ≡ last classes
  none-more classes [] found left over = left.last_is ∙ ap last (sym (append-nil left.front) ∙ sym left.split)
  none-more classes (class ∷ rest) found left over = absurd (omega (arith, over))
