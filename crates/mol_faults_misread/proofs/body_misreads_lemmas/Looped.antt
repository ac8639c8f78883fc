-- What is noted of `for`, from its parts (JLS 14.14).
use Rattle.std.proofs.Common.{◌≡◌, List, ◌++◌, length, take, Option, None, Some, refl, sym, ap, ◌∙◌}
use Rattle.jav_names.specs.DottedNames.{Name}
use Rattle.mol_base.specs.declared.ident.Id.{Id}
use Rattle.mol_faults_misread.proofs.body_misreads_lemmas.InTurn.{block_ends, declared_first, none_declared, then_on}
use Rattle.mol_faults_misread.specs.body_misreads.NotedOn.{NotedOn}
use Rattle.mol_faults_misread.specs.body_misreads.PartReferences.{maybe_references, typed_references}
use Rattle.mol_spell_uses.specs.body_uses.Loops.{each_parts, for_rest}
use Rattle.mol_faults_expr.proofs.Nodes.{all-alone}
use Rattle.mol_faults_expr.specs.Noted.{Noted, noted_after}
use Rattle.mol_faults_expr.specs.References.{all_references}
use Rattle.mol_resolve_rules.specs.Locals.{Locals, declare}
use Rattle.mol_resolve_rules.specs.ProgramViews.{seen}
use Rattle.mol_spell_rules.specs.SpelledExpressions.{alone, spelled_expr}
use Rattle.mol_spell_rules.specs.SpelledStatements.{Spells, declared_type, declaring, declaring_none, each_body, header, one_expr, spelled_block, then_next}
use Rattle.mol_spell_rules.specs.SpelledTypes.{SpelledType}
use Rattle.mol_spell_rules.specs.Writers.{Writer}
use Rattle.mol_values_types.specs.declared.iblock.IBlock.{IBlock}
use Rattle.mol_values_types.specs.declared.iexpr.IExpr.{IExpr}
use Rattle.mol_values_types.specs.declared.itype.IType.{IType}

module _ (writer : Writer) (locals : Locals Id) where
  -- ---- the test and the steps

  header-references : (test : Option IExpr) (steps : List IExpr) → (header writer test steps locals).references
      ≡ maybe_references writer locals test ++ all_references writer locals steps
  header-references None steps = all-alone writer locals steps
  header-references (Some e) steps =
      ap (λ references. alone writer locals (spelled_expr writer locals e) ++ references) (all-alone writer locals steps)

  header-locals : (test : Option IExpr) (steps : List IExpr) → (header writer test steps locals).locals ≡ locals
  header-locals None steps = refl
  header-locals (Some e) steps = refl

  pub for-rest-goes : (test : Option IExpr) (steps : List IExpr) (block : IBlock) (after : Locals Id) (noted between more : Noted)
      → between ≡ noted_after writer noted (maybe_references writer locals test ++ all_references writer locals steps)
      → NotedOn writer (spelled_block writer block) locals between after more
      → NotedOn writer (for_rest writer test steps block) locals noted after more
  for-rest-goes test steps block after noted between more is goes =
      then_on writer (header writer test steps) (spelled_block writer block) locals locals after noted between more
      (none_declared writer (header writer test steps) locals noted between (header-locals test steps)
      (is ∙ ap (noted_after writer noted) (sym (header-references test steps)))) goes

  -- ---- the items of a value

  pub each-body-goes : (type : IType) (name : Name) (block : IBlock) (middle after ended : Locals Id) (noted more : Noted)
      → middle ≡ declare (record { name = name; type = seen type }) locals
      → NotedOn writer (spelled_block writer block) middle noted after more
      → ended ≡ record { declared = after.declared; in_scope = take (length locals.in_scope) after.in_scope }
      → NotedOn writer (each_body writer (seen type) name (spelled_block writer block)) locals noted ended more
  each-body-goes type name block middle after ended noted more declared goes ends =
      block_ends writer (λ locals. spelled_block writer block (declaring writer (seen type) name locals)) locals noted after ended more
      (declared_first writer (record { name = name; type = seen type }) (spelled_block writer block) locals middle after noted more declared
      goes) ends

  pub each-goes : (type : IType) (name : Name) (e : IExpr) (block : IBlock) (after : Locals Id) (noted between more : Noted)
      → between ≡ noted_after writer noted (typed_references writer locals type e)
      → NotedOn writer (each_body writer (seen type) name (spelled_block writer block)) locals between after more
      → NotedOn writer (each_parts writer type name e block) locals noted after more
  each-goes type name e block after noted between more is goes =
      then_on writer (λ locals. then_next (spelled locals) (one_expr writer e))
      (each_body writer (seen type) name (spelled_block writer block)) locals locals after noted between more
      (none_declared writer (λ locals. then_next (spelled locals) (one_expr writer e)) locals noted between refl is) goes where
        spelled : Spells SpelledType
        spelled locals = declaring_none (declared_type writer locals type) (declared_type writer locals type).references locals
