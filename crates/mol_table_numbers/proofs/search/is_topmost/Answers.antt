use Rattle.std.proofs.Common.{◌≡◌, ◌∙◌, sym, subst, take}
use Rattle.std.proofs.lemmas.List.{take_all}
use Rattle.indexmap.specs.IndexMap.{keys}
use Rattle.mol_table_rules.specs.Counting.{is_of, living_of}
use Rattle.mol_table_rules.specs.Faults.{is_above}
use Rattle.mol_table.specs.Maps.{program_in}
use Rattle.mol_table_rules.specs.Program.{owner_at}
use Rattle.mol_table.proofs.Copying.{take-item}
use Rattle.mol_table_numbers.proofs.TopsSearched.{IsAbove, above-none, above-more, above-all, not-above, not-living, or-not, or-neither}
use Rattle.mol_table_numbers.proofs.search.is_topmost.Goals as goal

pub returns-then-not-declares : goal.returns-then-not-declares
returns-then-not-declares c = sym (not-living c.args.maps.now c.args.method.now c.args.decl.now (sym c.declares.ensures ∙ c.if-not-declares.true))

pub returns-then-not-branch : goal.returns-then-not-branch
returns-then-not-branch c =
    let program = program_in c.args.maps.now in
    let below = c.below-item.result in
    let both = or-neither (is_of c.args.method.now (living_of program below)) (is_above program (owner_at program below) (owner_at program c.args.decl.now))
    (sym c.in_ok-is_above_living.ensures ∙ c.if-not-branch.true) in
    sym (not-above c.args.maps.now c.args.method.now c.args.decl.now below both.0 both.1)

pub loop-below-init : goal.loop-below-init
loop-below-init c = above-none c.args.maps.now c.args.method.now c.args.decl.now

pub loop-below-preserved : goal.loop-below-preserved
loop-below-preserved c =
    let program = program_in c.args.maps.now in
    let items = c.as_slice-below-items.result.now in
    let i = c.loop-below.below-index in
    let below = c.below-item.result in
    subst (IsAbove c.args.maps.now c.args.method.now c.args.decl.now) (sym (take-item items i below c.loop-below-test.true c.below-item.is))
    (above-more c.args.maps.now c.args.method.now c.args.decl.now (take i items) below
    (or-not (is_of c.args.method.now (living_of program below)) (is_above program (owner_at program below) (owner_at program c.args.decl.now))
    (sym c.in_ok-is_above_living.ensures ∙ c.if-not-branch.false)) c.loop-below.invariant)

pub returns : goal.returns
returns c =
    let items = c.as_slice-below-items.result.now in
    let maps = c.args.maps.now in
    let all : take c.loop-below.below-index items ≡ keys maps.known =
    take_all c.loop-below.below-index items c.loop-below-test.false ∙ c.as_slice-below-items.ensures ∙ c.keys.ensures.rest in
    sym (above-all maps c.args.method.now c.args.decl.now (sym c.declares.ensures ∙ c.if-not-declares.false) (subst (IsAbove maps c.args.method.now c.args.decl.now) all c.loop-below.invariant))
