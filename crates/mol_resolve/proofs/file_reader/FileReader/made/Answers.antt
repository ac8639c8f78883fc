use Rattle.std.proofs.Common.{ℕ, List, ap, length, subst, sym}
use Rattle.std.proofs.lemmas.Result.{IfOk-weaker}
use Rattle.jav_tree.specs.declared.unit.Member.TheVariants as member
use Rattle.jav_tree.specs.declared.unit.Param.{Param}
use Rattle.mol_resolve_entities.proofs.file_entities_lemmas.ReadAtKeys.{entities_read}
use Rattle.mol_resolve_entities.specs.member_entities.Outcomes.{constructor_read, field_read, method_read}
use Rattle.mol_resolve_names.specs.names.InMember.{reader_of}
use Rattle.mol_resolve_members.specs.numbers.Members.{HasArity}
use Rattle.mol_resolve_members.specs.places.Listings.{key_of}
use Rattle.mol_resolve.proofs.AtPlaces.{constructor-arity, has-member, method-arity, read-as}
use Rattle.mol_resolve.proofs.file_reader.FileReader.made.Goals as goal
use Rattle.mol_resolve_members.specs.sources.Sources.{files_of}

pub member_ids-requires : goal.member_ids-requires
member_ids-requires c = has-member c.args.self.now c.args.at c.args.member.now c.requires.member

pub method_ids-requires-clause-member : goal.method_ids-requires-clause-member
method_ids-requires-clause-member c = has-member c.args.self.now c.args.at c.args.member.now c.requires.member

pub method_ids-requires-clause-count : goal.method_ids-requires-clause-count
method_ids-requires-clause-count c =
    subst (λ (count : ℕ). HasArity c.args.self.now c.args.at count) (ap (λ (all : List Param). length all) (sym c.items.ensures))
    (method-arity c.args.self.now c.args.at c.args.member.now c.requires.member c.in-Method.method c.in-Method.is)

pub method_ids-requires-in-Ctor-clause-member : goal.method_ids-requires-in-Ctor-clause-member
method_ids-requires-in-Ctor-clause-member c = has-member c.args.self.now c.args.at c.args.member.now c.requires.member

pub method_ids-requires-in-Ctor-clause-count : goal.method_ids-requires-in-Ctor-clause-count
method_ids-requires-in-Ctor-clause-count c =
    subst (λ (count : ℕ). HasArity c.args.self.now c.args.at count) (ap (λ (all : List Param). length all) (sym c.items-in-Ctor.ensures))
    (constructor-arity c.args.self.now c.args.at c.args.member.now c.requires.member c.in-Ctor.ctor c.in-Ctor.is)

pub returns-in-Field : goal.returns-in-Field
returns-in-Field c =
    let sources = c.args.self.now in
    let key = key_of c.args.at in
    let field = c.in-Field.field in
    IfOk-weaker c.field.result _ _ (λ made read.
    read-as sources key c.args.member.now c.requires.member (member.Field field) c.in-Field.is (reader_of c.args.names.now) c.requires.names
    (λ reader. field_read reader c.member_ids.result field)
    (λ file at. entities_read.field (files_of sources) key file field c.member_ids.result at c.member_ids.ensures) made _ _ read)
    c.field.ensures

pub returns-in_ok-ids-in-Method : goal.returns-in_ok-ids-in-Method
returns-in_ok-ids-in-Method c =
    let sources = c.args.self.now in
    let key = key_of c.args.at in
    let method = c.in-Method.method in
    let ids = c.in_ok-ids-in-Method.ids in
    IfOk-weaker c.method.result _ _ (λ made read.
    read-as sources key c.args.member.now c.requires.member (member.Method method) c.in-Method.is (reader_of c.args.names.now)
    c.requires.names (λ reader. method_read reader c.member_ids.result ids method)
    (λ file at. entities_read.method (files_of sources) key file method c.member_ids.result ids at c.member_ids.ensures
    c.in_ok-ids-in-Method.ensures) made _ _ read) c.method.ensures

pub returns-in_ok-ids-in-Ctor : goal.returns-in_ok-ids-in-Ctor
returns-in_ok-ids-in-Ctor c =
    let sources = c.args.self.now in
    let key = key_of c.args.at in
    let ctor = c.in-Ctor.ctor in
    let ids = c.in_ok-ids-in-Ctor.ids in
    IfOk-weaker c.constructor.result _ _ (λ made read.
    read-as sources key c.args.member.now c.requires.member (member.Ctor ctor) c.in-Ctor.is (reader_of c.args.names.now)
    c.requires.names (λ reader. constructor_read reader c.member_ids.result ids ctor)
    (λ file at. entities_read.constructor (files_of sources) key file ctor c.member_ids.result ids at c.member_ids.ensures
    c.in_ok-ids-in-Ctor.ensures) made _ _ read) c.constructor.ensures
