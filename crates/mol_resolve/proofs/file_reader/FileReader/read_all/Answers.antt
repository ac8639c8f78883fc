use Rattle.std.proofs.Common.{◌∙◌, ℕ, List, ap, arith, get_or, length}
use Rattle.std.proofs.lemmas.Result.{err_from_is_err_and}
use Rattle.mol_resolve.proofs.FaultsMet.{first-reported, no-fault, none-first, one-faultless, unit-within, whole-read}
use Rattle.mol_resolve.proofs.file_reader.FileReader.read_all.Goals as goal

pub loop-unit-init : goal.loop-unit-init
loop-unit-init c =
    none-first c.args.self.now c.new-entities.result c.new-entities.ensures.classes c.new-entities.ensures.members
    c.new-entities.ensures.methods

-- the file of this turn
pub source-source-requires : goal.source-source-requires
source-source-requires c =
    let place = c.loop-unit.unit-index in
    let unit = get_or c.args.order.now place 0 in
    unit-within c.args.self.now place unit (omega (arith, c.loop-unit-test.true, ap length c.requires))
    (ap (λ (all : List ℕ). get_or all place 0) c.requires)

pub loop-unit-preserved : goal.loop-unit-preserved
loop-unit-preserved c =
    let place = c.loop-unit.unit-index in
    let unit = get_or c.args.order.now place 0 in
    one-faultless c.args.self.now place unit (omega (arith, c.loop-unit-test.true, ap length c.requires))
    (ap (λ (all : List ℕ). get_or all place 0) c.requires) c.source-source.result.now c.source-source.ensures
    c.loop-unit.entities c.loop-unit.invariant c.read_file.new.entities c.in_ok-read_file.ensures.none c.in_ok-read_file.ensures.added

-- the first fault
pub returns-in_err-read_file-clause-fault : goal.returns-in_err-read_file-clause-fault
returns-in_err-read_file-clause-fault c =
    let place = c.loop-unit.unit-index in
    let unit = get_or c.args.order.now place 0 in
    let out = err_from_is_err_and c.from_residual.result c.from_residual.ensures.1 in
    rw (out.1, out.2) (λ wants apart.
    first-reported c.args.self.now place unit (omega (arith, c.loop-unit-test.true, ap length c.requires))
    (ap (λ (all : List ℕ). get_or all place 0) c.requires) c.source-source.result.now c.source-source.ensures
    c.loop-unit.entities c.loop-unit.invariant apart _ (c.in_err-read_file.ensures.fault wants))

pub returns-clause-none : goal.returns-clause-none
returns-clause-none c =
    no-fault c.args.self.now c.loop-unit.unit-index (omega (arith, c.loop-unit-test.false, ap length c.requires)) c.loop-unit.entities
    c.loop-unit.invariant

pub returns-clause-entities : goal.returns-clause-entities
returns-clause-entities c =
    c.in_ok-in_order.ensures
    ∙ whole-read c.args.self.now c.loop-unit.unit-index (omega (arith, c.loop-unit-test.false, ap length c.requires)) c.loop-unit.entities
    c.loop-unit.invariant
