-- Readers that are alike read trees alike.
use Rattle.std.proofs.Common.{◌≡◌, ℕ, option_map}
use Rattle.mol_base.specs.declared.ident.Id.{Id}
use Rattle.jav_tree.specs.declared.types.TypeName.{TypeName}
use Rattle.jav_names_laws.specs.Keys.{Keys}
use Rattle.mol_resolve_keys.specs.Alike.{ReadersAlike}
use Rattle.mol_resolve_keys.specs.Laws.{TreesReadAlike, ReadingsAlike}
use Rattle.mol_resolve_rules.specs.Locals.{no_locals}
use Rattle.mol_resolve_rules.specs.Outcomes.{mapped}
use Rattle.mol_resolve_rules.specs.Readers.{Reader}
use Rattle.mol_resolve_rules.specs.ReadTypes.{ReadType, read_type}
use Rattle.mol_values_types.specs.Renamed.{rename_type, rename_expr, rename_block}
use Rattle.mol_resolve_keys.proofs.BodiesAlike.{blocks-alike, body-alike}
use Rattle.mol_resolve_keys.proofs.ExpressionsAlike.{meant-as, expression-alike}
use Rattle.mol_resolve_keys.proofs.OutcomesAlike.{made-outcome, equal-mapped}
use Rattle.mol_resolve_keys.proofs.StatementsAlike.{maybe-alike}
use Rattle.mol_resolve_keys.proofs.TypesAlike.{TypesAlike, tree-alike, seen-alike, type-alike}

module _ {C M D N : Type 0} (keys : Keys C M D N) (name : Id → Id) (first : Reader C M) (second : Reader D N)
    (alike : ReadersAlike keys name first second) where
  declared-alike : (at : ℕ) (type : TypeName) → mapped (λ (read : ReadType C). read.tree) (read_type first at type)
      ≡ mapped (λ (read : ReadType D). rename_type name read.tree) (read_type second at type)
  declared-alike at type = equal-mapped (TypesAlike keys name first second alike) (λ (read : ReadType C). read.tree)
      (λ (read : ReadType D). rename_type name read.tree) (read_type first at type) (read_type second at type)
      (type-alike keys name first second alike at type) (λ read other same. same.tree)

  read-alike : TreesReadAlike keys name first second
  read-alike = record {
    types = tree-alike keys name first second alike;
    seen_types = seen-alike keys name first second alike;
    declared_types = declared-alike;
    meanings = meant-as keys name first second alike;
    expressions = λ locals e. made-outcome (rename_expr name) _ _ (expression-alike keys name first second alike locals e);
    blocks = λ locals block. made-outcome (rename_block name) _ _ (blocks-alike keys name first second alike block locals).outcome;
    locals = λ locals block. (blocks-alike keys name first second alike block locals).locals;
    first_values = λ init. made-outcome (option_map (rename_expr name)) _ _ (maybe-alike keys name first second alike no_locals init);
    bodies = body-alike keys name first second alike;
  }

pub readings_alike : (C M D N : Type 0) → ReadingsAlike C M D N
readings_alike C M D N keys name first second alike = read-alike keys name first second alike
