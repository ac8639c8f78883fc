use Rattle.std.proofs.Common.{codes}
use Rattle.jav_tree.specs.TypeText.{type_text}
use Rattle.jav_print.proofs.Pages.{on_two}
use Rattle.jav_print.proofs.page.Page.instanceof_type.Goals as goal

pub returns : goal.returns
returns c = on_two c.type_name.result c.args.self.now (codes " instanceof ") (type_text c.args.ty.now) c.put.new.self c.type_name.new.self c.in_ok-put.ensures c.type_name.ensures
