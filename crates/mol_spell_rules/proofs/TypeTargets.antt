-- The references of a type, wherever it is written, have the targets of its names.
use Rattle.std.proofs.Common.{◌≡◌, List, [], ◌∷◌, ◌++◌, map, refl, sym, ap, subst, ◌∙◌}
use Rattle.mol_base.specs.declared.ident.Id.{Id}
use Rattle.mol_spell_rules.specs.references.References as reference
use Rattle.mol_spell_rules.specs.references.References.{References, type_references}
use Rattle.mol_values_types.specs.declared.itype.IType.{IType}
use Rattle.mol_values_types.specs.declared.itype.IType.TheFolds.{fold-roll-IType, ind-IType, map-IType}
use Rattle.mol_values_types.specs.declared.itype.IType.TheOpen.{IType-F}
use Rattle.mol_values_types.specs.declared.itype.IType.TheViews.{roll-IType}
use Rattle.jav_names.specs.DottedNames.{Name}
use Rattle.std.specs.Prelude.{Bool}
use Rattle.mol_resolve_rules.specs.Locals.{Locals}
use Rattle.mol_spell_rules.specs.SpelledTypes.{SpelledType, spelled_type, type_step}
use Rattle.mol_spell_rules.specs.Writers.{Writer, Reference}

abbrev pub targets : List Reference → References
targets rs = map (λ (r : Reference). r.target) rs

pub targets-append : (rs ss : List Reference) → targets (rs ++ ss) ≡ targets rs ++ targets ss
targets-append [] ss = refl
targets-append (r ∷ rs) ss = ap (λ rest. r.target ∷ rest) (targets-append rs ss)

pub both : (rs ss : List Reference) (r s : References) → targets rs ≡ r → targets ss ≡ s → targets (rs ++ ss) ≡ r ++ s
both rs ss r s first second = targets-append rs ss ∙ λ i. first i ++ second i

module _ (writer : Writer) (hides : Name → Bool) (locals : Locals Id) where
  abbrev spelled : IType → SpelledType
  spelled = spelled_type writer hides locals

  abbrev step : IType-F SpelledType → SpelledType
  step = type_step writer hides locals

  abbrev AreAlike : SpelledType → References → Type 0
  AreAlike part refs = targets part.references ≡ refs

  abbrev Alike : IType → Type 0
  Alike type = AreAlike (spelled type) (type_references type)

  from : (x : IType-F IType) → AreAlike (step (map-IType _ _ spelled x)) (reference.type_step (map-IType _ _ type_references x))
      → Alike (roll-IType x)
  from x alike = subst (λ part. AreAlike part (type_references (roll-IType x))) (sym (fold-roll-IType SpelledType step x))
      (subst (AreAlike (step (map-IType _ _ spelled x))) (sym (fold-roll-IType References reference.type_step x)) alike)

  layer : (y : IType-F ((type : IType) × Alike type)) → Alike (roll-IType (map-IType _ _ (λ p. p.0) y))
  layer IType-F.Boolean = from IType-F.Boolean refl
  layer IType-F.Byte = from IType-F.Byte refl
  layer IType-F.Short = from IType-F.Short refl
  layer IType-F.Char = from IType-F.Char refl
  layer IType-F.Int = from IType-F.Int refl
  layer IType-F.Long = from IType-F.Long refl
  layer IType-F.Void = from IType-F.Void refl
  layer (IType-F.Class class) = from (IType-F.Class class) refl
  layer (IType-F.Imported import rest) = from (IType-F.Imported import rest) refl
  layer (IType-F.Written text) = from (IType-F.Written text) refl
  layer (IType-F.Array item) = from (IType-F.Array item.0) item.1

  pub type-targets : (type : IType) → targets (spelled_type writer hides locals type).references ≡ type_references type
  type-targets = ind-IType Alike (λ x y is. subst (λ z. Alike (roll-IType z)) is (layer y))
