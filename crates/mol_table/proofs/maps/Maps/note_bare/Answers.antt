use Rattle.std.proofs.Common.{◌∙◌, sym}
use Rattle.std.specs.Prelude.{Result, Ok, Err, OnOk}
use Rattle.mol_table.specs.Maps.{program_in}
use Rattle.mol_table.proofs.Bare.{bare-same, adds-none, adds-unowned, put-more}
use Rattle.mol_table.proofs.maps.Maps.note_bare.Goals as goal

on_ok : {A E : Type 0} (r : Result A E) (P Q : Type 0) → (P → Q) → OnOk r P → OnOk r Q
on_ok (Ok x) P Q f h = f h
on_ok (Err e) P Q f h = h

pub returns-in_default : goal.returns-in_default
returns-in_default c = λ class decls was.
    let program = program_in c.args.self.now in
    was ∙ sym (bare-same program class decls c.args.decl.now (λ method. adds-none program class c.args.decl.now method (sym c.bare_of.ensures ∙ c.in_default.is)))

pub returns-in_default-owner : goal.returns-in_default-owner
returns-in_default-owner c = λ class decls was.
    let program = program_in c.args.self.now in
    was ∙ sym (bare-same program class decls c.args.decl.now (λ method. adds-unowned program class c.args.decl.now method (sym c.owner.ensures ∙ c.in_default-owner.is)))

pub returns : goal.returns
returns c =
    let program = program_in c.args.self.now in
    on_ok c.put_lesser.result _ _
    (λ put. put-more program c.args.index.now.entries c.put_lesser.new.index.entries c.in-Some-owner.class c.args.decl.now c.in-Some.constructor
    (sym c.bare_of.ensures ∙ c.in-Some.is) (sym c.owner.ensures ∙ c.in-Some-owner.is) put)
    c.put_lesser.ensures
