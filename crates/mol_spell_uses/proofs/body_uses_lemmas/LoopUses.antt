-- What `for` uses, from its parts (JLS 14.14).
use Rattle.std.proofs.Common.{◌≡◌, List, ◌++◌, length, take, Option, None, Some, refl, sym, ap, ◌∙◌}
use Rattle.jav_names.specs.DottedNames.{Name}
use Rattle.mol_base.specs.declared.ident.Id.{Id}
use Rattle.mol_spell_uses.proofs.body_uses_lemmas.InTurn.{block_ends, declared_first, none_declared, then_on}
use Rattle.mol_spell_uses.specs.body_uses.Loops.{each_parts, for_rest}
use Rattle.mol_spell_uses.specs.body_uses.PartUses.{declared_uses, maybe_uses}
use Rattle.mol_spell_uses.specs.body_uses.UsesOn.{UsesOn}
use Rattle.mol_resolve_rules.specs.Locals.{Locals, declare}
use Rattle.mol_resolve_rules.specs.ProgramViews.{seen}
use Rattle.mol_spell_rules.specs.SpelledExpressions.{alone, spelled_expr}
use Rattle.mol_spell_rules.specs.SpelledStatements.{Spells, declared_type, declaring, declaring_none, each_body, header, one_expr, spelled_block, then_next}
use Rattle.mol_spell_rules.specs.SpelledTypes.{SpelledType}
use Rattle.mol_spell_rules.specs.Writers.{Use, Writer}
use Rattle.mol_spell_uses.proofs.uses_lemmas.ModeFree.{uses-append}
use Rattle.mol_spell_uses.proofs.uses_lemmas.UsesNodes.{uses-all}
use Rattle.mol_spell_uses.specs.uses.Uses.{all_uses, expr_uses, uses_of}
use Rattle.mol_values_types.specs.declared.iblock.IBlock.{IBlock}
use Rattle.mol_values_types.specs.declared.iexpr.IExpr.{IExpr}
use Rattle.mol_values_types.specs.declared.itype.IType.{IType}

module _ (writer : Writer) (locals : Locals Id) where
  -- ---- the test and the steps

  header-uses : (test : Option IExpr) (steps : List IExpr) → uses_of (header writer test steps locals).references
      ≡ maybe_uses writer locals test ++ all_uses writer locals steps
  header-uses None steps = uses-all writer locals steps
  header-uses (Some e) steps =
      uses-append (alone writer locals (spelled_expr writer locals e)) (header writer None steps locals).references
      ∙ ap (λ us. expr_uses writer locals e ++ us) (uses-all writer locals steps)

  header-locals : (test : Option IExpr) (steps : List IExpr) → (header writer test steps locals).locals ≡ locals
  header-locals None steps = refl
  header-locals (Some e) steps = refl

  pub for-rest-goes : (test : Option IExpr) (steps : List IExpr) (block : IBlock) (after : Locals Id) (uses between more : List Use)
      → between ≡ uses ++ (maybe_uses writer locals test ++ all_uses writer locals steps)
      → UsesOn (spelled_block writer block) locals between after more → UsesOn (for_rest writer test steps block) locals uses after more
  for-rest-goes test steps block after uses between more is goes =
      then_on (header writer test steps) (spelled_block writer block) locals locals after uses between more
      (none_declared (header writer test steps) locals uses between (header-locals test steps)
      (is ∙ ap (λ us. uses ++ us) (sym (header-uses test steps)))) goes

  -- ---- the items of a value

  pub each-body-goes : (type : IType) (name : Name) (block : IBlock) (middle after ended : Locals Id) (uses more : List Use)
      → middle ≡ declare (record { name = name; type = seen type }) locals → UsesOn (spelled_block writer block) middle uses after more
      → ended ≡ record { declared = after.declared; in_scope = take (length locals.in_scope) after.in_scope }
      → UsesOn (each_body writer (seen type) name (spelled_block writer block)) locals uses ended more
  each-body-goes type name block middle after ended uses more declared goes ends =
      block_ends (λ locals. spelled_block writer block (declaring writer (seen type) name locals)) locals uses after ended more
      (declared_first (record { name = name; type = seen type }) (spelled_block writer block) locals middle after uses more declared goes)
      ends

  pub each-goes : (type : IType) (name : Name) (e : IExpr) (block : IBlock) (after : Locals Id) (uses between more : List Use)
      → between ≡ uses ++ (declared_uses writer locals type ++ expr_uses writer locals e)
      → UsesOn (each_body writer (seen type) name (spelled_block writer block)) locals between after more
      → UsesOn (each_parts writer type name e block) locals uses after more
  each-goes type name e block after uses between more is goes =
      then_on (λ locals. then_next (spelled locals) (one_expr writer e)) (each_body writer (seen type) name (spelled_block writer block))
      locals locals after uses between more
      (none_declared (λ locals. then_next (spelled locals) (one_expr writer e)) locals uses between refl
      (is ∙ ap (λ us. uses ++ us) (sym (uses-append (declared_type writer locals type).references
      (alone writer locals (spelled_expr writer locals e)))))) goes where
        spelled : Spells SpelledType
        spelled locals = declaring_none (declared_type writer locals type) (declared_type writer locals type).references locals
