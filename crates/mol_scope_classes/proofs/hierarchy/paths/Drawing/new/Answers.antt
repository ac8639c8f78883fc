use Rattle.std.proofs.Common.{List, [], ℕ, sym, subst}
use Rattle.mol_base.specs.declared.ident.Id.{Id}
use Rattle.mol_scope_classes.specs.hierarchy.Paths.{AreDrawn}
use Rattle.mol_scope_classes.specs.declared.hierarchy.position.Position.{Position}
use Rattle.mol_scope_classes.proofs.hierarchy_lemmas.PathsDrawn.{none-drawn}
use Rattle.mol_scope_classes.proofs.hierarchy.paths.Drawing.new.Goals as goal

pub returns : goal.returns
returns c = λ program.
    subst (λ (positions : List (Id × Position)). AreDrawn program positions c.new-2.result.entries) (sym c.new.ensures.empty)
    (subst (λ (lasts : List (Id × ℕ)). AreDrawn program [] lasts) (sym c.new-2.ensures.empty) (none-drawn program))
