use Rattle.std.proofs.Common.{◌<◌, ◌∙◌, ap, sym, subst, length, slice_get}
use Rattle.jav_scope.proofs.scope.Scope.import_of.Goals as goal

pub import_of-requires : goal.import_of-requires
import_of-requires c = subst (λ sources. c.args.unit < length sources) (sym c.self.view_is) c.requires

pub returns : goal.returns
returns c = λ source at. c.import_of.ensures source (ap (λ sources. slice_get sources c.args.unit) c.self.view_is ∙ at)
