-- The identities of the parameters of a member, by its declaration.
use Rattle.std.proofs.Common.{◌≡◌, ◌∙◌, ℕ, List, [], length, Option, Some, refl, sym, ap}
use Rattle.std.proofs.lemmas.List.FromFn.{length-map-range_with_len}
use Rattle.jav_scope.specs.Entries.{classes_in, view_in}
use Rattle.jav_scope.specs.declared.found.MemberRef.{MemberRef}
use Rattle.jav_scope.specs.declared.source.SourceUnit.{SourceUnit}
use Rattle.jav_tree.specs.declared.unit.Ctor.{Ctor}
use Rattle.jav_tree.specs.declared.unit.Field.{Field}
use Rattle.jav_tree.specs.declared.unit.Member.{Member}
use Rattle.jav_tree.specs.declared.unit.Member.TheVariants as member
use Rattle.jav_tree.specs.declared.unit.Method.{Method}
use Rattle.jav_names.specs.UnitViews.{MemberKey, declaration_in}
use Rattle.jav_names.specs.Views.{View, ViewDeclaration}
use Rattle.mol_base.specs.declared.ident.Id.{Id}
use Rattle.mol_resolve_members.proofs.numbers_lemmas.MemberKeys.{made-there}
use Rattle.mol_resolve_members.specs.numbers.Members.{HasArity, IsMember}
use Rattle.mol_resolve_members.specs.places.Listings.{key_of}
use Rattle.mol_resolve_members.proofs.sources_lemmas.Sourced.{sources_viewed}
use Rattle.mol_resolve_members.specs.sources.Sources.{files_of}
use Rattle.mol_resolve_rules.specs.Files.{declaration_at, files_view, params_of}
use Rattle.mol_resolve_rules.specs.Numbering.{ids_of}
use Rattle.mol_resolve_rules.specs.ReadFiles.{declared_ids}

abbrev Declaration : Type 0
Declaration = ViewDeclaration ℕ MemberKey

module _ (sources : List SourceUnit) (at : MemberRef) where
  abbrev pub found : Option Declaration
  found = declaration_at (files_view (files_of sources)) (key_of at)

  seen : found ≡ declaration_at (view_in sources) (key_of at)
  seen = ap (λ (view : View ℕ MemberKey). declaration_at view (key_of at)) (sources_viewed.same_view sources)

  -- of a declaration
  pub ids-declared : (arity : ℕ) → HasArity sources at arity → (ids : List Id)
      → ((declared : Declaration) → declaration_at (view_in sources) (key_of at) ≡ Some declared
      → ids ≡ (ids_of (files_of sources)).param_ids declared) → ids ≡ declared_ids (files_of sources) found
  ids-declared arity has ids are =
      are has.declared has.stands ∙ ap (declared_ids (files_of sources)) (sym (seen ∙ has.stands))

  module _ (kept : Member) (is : IsMember sources (key_of at) kept) where
    abbrev made : Member → Option Declaration
    made kept = declaration_in (classes_in sources) (at.unit, is.source.unit) (at.member, kept)

    made-of : (same : Member) → kept ≡ same → declaration_at (view_in sources) (key_of at) ≡ made same
    made-of same is-same = made-there sources (key_of at) kept is ∙ ap made is-same

    pub method-arity : (method : Method) (arity : ℕ) → kept ≡ member.Method method → arity ≡ length (params_of kept)
        → HasArity sources at arity
    method-arity method arity same counted = record {
      declared = _;
      stands = made-of (member.Method method) same;
      takes = sym (counted ∙ ap (λ (kept : Member). length (params_of kept)) same);
    }

    pub ctor-arity : (ctor : Ctor) (arity : ℕ) → kept ≡ member.Ctor ctor → arity ≡ length (params_of kept) → HasArity sources at arity
    ctor-arity ctor arity same counted = record {
      declared = _;
      stands = made-of (member.Ctor ctor) same;
      takes = sym (counted ∙ ap (λ (kept : Member). length (params_of kept)) same);
    }

    pub field-ids : (field : Field) → kept ≡ member.Field field → [] ≡ declared_ids (files_of sources) found
    field-ids field same = ap (declared_ids (files_of sources)) (sym (seen ∙ made-of (member.Field field) same))

    -- one for each parameter
    pub ids-counted : length (declared_ids (files_of sources) found) ≡ length (params_of kept)
    ids-counted = ap (λ found. length (declared_ids (files_of sources) found)) (seen ∙ made-of kept refl) ∙ by kept where
      by : (kept : Member) → length (declared_ids (files_of sources) (made kept)) ≡ length (params_of kept)
      by (member.Field field) = refl
      by (member.Method method) = length-map-range_with_len _ 0 (length method.params)
      by (member.Ctor ctor) = length-map-range_with_len _ 0 (length ctor.params)
