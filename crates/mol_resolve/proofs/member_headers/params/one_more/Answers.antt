use Rattle.std.proofs.Common.{◌∷◌, ◌++◌, [], Some, option_map, sym, ◌∙◌, ap}
use Rattle.std.specs.Option.{option_zip}
use Rattle.jav_names.specs.seen.Kept.{view_type}
use Rattle.mol_resolve_readings.specs.meant.Kept.{view_reading}
use Rattle.mol_resolve_entities.specs.member_entities.Headings.{listed_as, put_last}
use Rattle.mol_resolve.proofs.member_headers.params.one_more.Goals as goal

pub returns : goal.returns
returns c =
    let list = c.in-Some.list in
    let item = c.in_ok-listed.ensures (view_type c.in-Some-read.read.ty) in
    ap (λ longer. Some longer) (c.in_ok-add.ensures.ok ∙ (λ i. list ++ item i ∷ []))
    ∙ (λ i. option_map put_last
    (option_zip (sym c.in-Some.is i) (option_map (listed_as c.args.id c.args.param.now) (view_reading (sym c.in-Some-read.is i)))))
