use Rattle.std.proofs.lemmas.Result.{err_from_is_err_and}
use Rattle.mol_resolve.proofs.PlainPrograms.{all-new, is-plain, reads-as}
use Rattle.mol_resolve.proofs.resolving.resolve.Goals as goal
use Rattle.mol_resolve_members.specs.sources.Sources.{files_of}

pub table_of-requires : goal.table_of-requires
table_of-requires c =
    all-new (files_of c.args.units.now) c.in_ok-entities.entities c.in_ok-entities.ensures.none c.requires c.in_ok-entities.ensures.entities

pub returns-clause-read : goal.returns-clause-read
returns-clause-read c =
    reads-as (files_of c.args.units.now) c.in_ok-entities.entities c.in_ok-entities.ensures.none c.requires
    c.in_ok-entities.ensures.entities c.in_ok-table_of.field-0 c.in_ok-table_of.ensures

pub returns-clause-plain : goal.returns-clause-plain
returns-clause-plain c =
    is-plain (files_of c.args.units.now) c.in_ok-entities.entities c.in_ok-entities.ensures.none c.requires
    c.in_ok-entities.ensures.entities c.in_ok-table_of.field-0 c.in_ok-table_of.ensures

pub returns-in_err-entities-clause-fault : goal.returns-in_err-entities-clause-fault
returns-in_err-entities-clause-fault c =
    let out = err_from_is_err_and c.from_residual.result c.from_residual.ensures.1 in
    rw (out.1, out.2) c.in_err-entities.ensures.fault
