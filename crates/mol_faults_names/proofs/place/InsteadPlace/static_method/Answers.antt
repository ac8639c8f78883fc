use Rattle.std.proofs.Common.{◌-◌, ◌∙◌, [], ◌∷◌, ap, sym, length, arith}
use Rattle.std.proofs.lemmas.List.{append-nil}
use Rattle.mol_faults_names.proofs.NamesCut.{first-name, names-after}
use Rattle.mol_faults_names.proofs.Said.{left}
use Rattle.mol_faults_names.proofs.SaidInstead.{method-class, method-front, method-value}
use Rattle.mol_faults_names.specs.Kept.{locals_at, program_at, reader_at}
use Rattle.mol_faults_names.specs.Reads.{method_read, names_read}
use Rattle.mol_resolve_rules.specs.ReadTrees.{path_by}
use Rattle.mol_faults_names.proofs.place.InsteadPlace.static_method.Goals as goal

pub returns-in-Whole : goal.returns-in-Whole
returns-in-Whole c = λ names is.
    let place = c.args.self.now.names.now in
    let locals = locals_at c.args.self.now in
    let read = left place locals names.first names.rest in
    c.static_method.ensures locals names c.requires.at is
    ∙ method-class place locals names c.args.name.now c.args.arity c.in-Whole.field-0
    (c.in-Whole.ensures read (c.first-first.ensures names.first names.rest is) ∙ ap (λ count. path_by count read) (ap length is))

pub returns-in-Front : goal.returns-in-Front
returns-in-Front c = λ names is.
    let place = c.args.self.now.names.now in
    let locals = locals_at c.args.self.now in
    let read = left place locals names.first names.rest in
    method-front place locals names c.args.name.now c.args.arity
    (c.in-Front.ensures read (c.first-first.ensures names.first names.rest is) ∙ ap (λ count. path_by count read) (ap length is))

pub returns-in-Ok : goal.returns-in-Ok
returns-in-Ok c = λ names is.
    let self = c.args.self.now in
    let place = self.names.now in
    let locals = locals_at self in
    let path = c.args.path.now in
    let alone = is ∙ ap (λ rest. names.first ∷ rest) (sym (append-nil names.rest)) in
    let read = left place locals names.first names.rest in
    let first = first-name path names.first c.index-path-0.result names.rest c.index-path-0.is is in
    let rest = names-after path names.first names.rest [] (length path - 1) alone (let many = ap length is in omega (arith, many)) in
    c.method_of.ensures
    ∙ ap (method_read (reader_at self) c.args.name.now c.args.arity)
    (c.in-Ok.ensures read (c.first-first.ensures names.first names.rest is)
    ∙ (λ i. names_read (program_at self) (reader_at self) locals (first i) (rest i) read))
    ∙ method-value place locals names c.args.name.now c.args.arity
    (c.in-Neither.ensures read (c.first-first.ensures names.first names.rest is) ∙ ap (λ count. path_by count read) (ap length is))
