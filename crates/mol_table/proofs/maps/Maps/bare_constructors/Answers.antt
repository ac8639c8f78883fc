use Rattle.std.proofs.Common.{◌≡◌, ◌∙◌, sym, ap, take}
use Rattle.std.proofs.lemmas.List.{take_all}
use Rattle.std.specs.FinMap.{get-empty, contains_key-keys}
use Rattle.std.specs.FinMap as finite
use Rattle.indexmap.specs.IndexMap.{keys}
use Rattle.mol_base.specs.Order.{id_cmp}
use Rattle.mol_table.specs.Bare.{bare_by}
use Rattle.mol_table.specs.Maps.{program_in}
use Rattle.mol_table.specs.Tidying.{bare_in}
use Rattle.mol_table.proofs.Bare.{bare-none, bare-lists, bare-known}
use Rattle.mol_table.proofs.Copying.{take-item}
use Rattle.mol_table_rules.proofs.Programs.{keys-known}
use Rattle.mol_table.proofs.maps.Maps.bare_constructors.Goals as goal

pub loop-id-init : goal.loop-id-init
loop-id-init c = λ class. ap (λ es. bare_in es class) c.new-index.ensures.empty ∙ get-empty id_cmp class ∙ sym (bare-none (program_in c.args.self.now) class)

pub loop-id-preserved : goal.loop-id-preserved
loop-id-preserved c = λ class.
    let items = c.as_slice-id-items.result.now in
    let i = c.loop-id.id-index in
    c.in_ok-note_bare.ensures class (take i items) (c.loop-id.invariant class)
    ∙ ap (bare_by (program_in c.args.self.now) class) (sym (take-item items i c.id-item.result c.loop-id-test.true c.id-item.is))

pub returns : goal.returns
returns c = λ class.
    let items = c.as_slice-id-items.result.now in
    let program = program_in c.args.self.now in
    let all : take c.loop-id.id-index items ≡ keys c.args.self.now.known =
    take_all c.loop-id.id-index items c.loop-id-test.false ∙ c.as_slice-id-items.ensures ∙ c.keys.ensures.rest in
    c.loop-id.invariant class ∙ ap (bare_by program class) all
    ∙ bare-lists program class (keys c.args.self.now.known) (finite.keys program.known) (λ q. keys-known c.args.self.now.known.entries q ∙ contains_key-keys program.known q)
    ∙ bare-known program class
