-- What is noted of expressions in statements, and of declarations of locals (JLS 14.4).
use Rattle.std.proofs.Common.{◌≡◌, List, map, Option, None, Some, refl, sym, ap, ◌∙◌, subst}
use Rattle.jav_tree.specs.declared.stmt.Declarator.{Declarator}
use Rattle.mol_base.specs.declared.ident.Id.{Id}
use Rattle.mol_faults_misread.proofs.body_misreads_lemmas.InTurn.{none_declared, nothing, retold, then_on}
use Rattle.mol_faults_misread.specs.body_misreads.NotedOn.{NotedOn}
use Rattle.mol_faults_misread.specs.body_misreads.PartReferences.{declared_references, maybe_references}
use Rattle.mol_spell_uses.proofs.body_uses_lemmas.InTurn.{declared_stays}
use Rattle.mol_faults_expr.proofs.Nodes.{all-alone}
use Rattle.mol_faults_expr.specs.Noted.{Noted, noted_after}
use Rattle.mol_faults_expr.specs.References.{all_references}
use Rattle.mol_resolve_rules.specs.Locals.{Locals, declare}
use Rattle.mol_resolve_rules.specs.ProgramViews.{seen}
use Rattle.mol_spell_rules.specs.SpelledStatements.{Spells, declarator, declared_type, declaring_none, each, maybe_expr, spelled_let, spelled_start, then_next}
use Rattle.mol_spell_rules.specs.SpelledTypes.{SpelledType}
use Rattle.mol_spell_rules.specs.Writers.{Writer}
use Rattle.mol_values_types.specs.declared.iblock.IDeclarator.{IDeclarator}
use Rattle.mol_values_types.specs.declared.iblock.IForStart.{IForStart}
use Rattle.mol_values_types.specs.declared.iblock.IForStart.TheVariants as starts
use Rattle.mol_values_types.specs.declared.iblock.ILet.{ILet}
use Rattle.mol_values_types.specs.declared.iexpr.IExpr.{IExpr}
use Rattle.mol_values_types.specs.declared.itype.IType.{IType}

module _ (writer : Writer) where
  pub maybe-locals : (e : Option IExpr) (locals : Locals Id) → (maybe_expr writer e locals).locals ≡ locals
  maybe-locals None locals = refl
  maybe-locals (Some e) locals = refl

  -- ---- variables and their declarations

  -- A variable is declared, and then its first value is gone through.
  pub declarator-goes : (type : IType) (d : IDeclarator) (locals after : Locals Id) (noted more : Noted)
      → after ≡ declare (record { name = d.name; type = seen type }) locals
      → more ≡ noted_after writer noted (maybe_references writer after d.init)
      → NotedOn writer (declarator writer (seen type) d) locals noted after more
  declarator-goes type d locals after noted more declared is =
      let then : Locals Id = declare (record { name = d.name; type = seen type }) locals in
      record {
        are_noted = is ∙ (λ i. noted_after writer noted (maybe_references writer (declared i) d.init));
        are_declared = declared ∙ sym (maybe-locals d.init then);
        stay_in_scope = declared_stays (record { name = d.name; type = seen type }) locals after declared;
      }

  -- The variables may be found as another value.
  pub let-goes : (declared : ILet) (found : List IDeclarator) (locals after : Locals Id) (noted between more : Noted)
      → found ≡ declared.names → between ≡ noted_after writer noted (declared_references writer locals declared.ty)
      → NotedOn writer (each (map (declarator writer (seen declared.ty)) found)) locals between after more
      → NotedOn writer (spelled_let writer declared) locals noted after more
  let-goes declared found locals after noted between more same is goes =
      retold writer (λ locals. then_next (type locals) (variables declared.names)) locals noted (spelled_let writer declared) after more
      refl refl
      (then_on writer type (variables declared.names) locals locals after noted between more
      (none_declared writer type locals noted between refl is)
      (subst (λ names. NotedOn writer (variables names) locals between after more) same goes)) where
        type : Spells SpelledType
        type locals = declaring_none (declared_type writer locals declared.ty) (declared_type writer locals declared.ty).references locals

        variables : List IDeclarator → Spells (List Declarator)
        variables names = each (map (declarator writer (seen declared.ty)) names)

-- # What stands before the first `;` in the header of a `for`

module _ (writer : Writer) (start : IForStart) (locals : Locals Id) (noted : Noted) where
  pub no-start : start ≡ starts.None → NotedOn writer (spelled_start writer start) locals noted locals noted
  no-start is =
      subst (λ start. NotedOn writer (spelled_start writer start) locals noted locals noted) (sym is)
      (nothing writer (spelled_start writer starts.None) locals noted refl refl)

  pub start-of-let : (declared : ILet) (after : Locals Id) (more : Noted) → start ≡ starts.Let declared
      → NotedOn writer (spelled_let writer declared) locals noted after more
      → NotedOn writer (spelled_start writer start) locals noted after more
  start-of-let declared after more is goes =
      subst (λ start. NotedOn writer (spelled_start writer start) locals noted after more) (sym is)
      (retold writer (spelled_let writer declared) locals noted (spelled_start writer (starts.Let declared)) after more refl refl goes)

  -- The expressions may be found as another value.
  pub start-of-exprs : (es found : List IExpr) (more : Noted) → start ≡ starts.Do es → found ≡ es
      → more ≡ noted_after writer noted (all_references writer locals found)
      → NotedOn writer (spelled_start writer start) locals noted locals more
  start-of-exprs es found more is same are =
      subst (λ start. NotedOn writer (spelled_start writer start) locals noted locals more) (sym (is ∙ ap (λ es. starts.Do es) (sym same)))
      (none_declared writer (spelled_start writer (starts.Do found)) locals noted more refl
      (are ∙ ap (noted_after writer noted) (sym (all-alone writer locals found))))
