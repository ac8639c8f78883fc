use Rattle.std.proofs.Common.{◌≡◌, ◌∙◌, ℕ, Option, Some, None, length, option_map, refl, sym, ap}
use Rattle.std.specs.Option.{option_map_or}
use Rattle.jav_scope.specs.Answers.{declaration_ref}
use Rattle.jav_scope.specs.Entries.{view_in}
use Rattle.jav_scope.specs.declared.found.MemberRef.{MemberRef}
use Rattle.jav_names.specs.UnitViews.{MemberKey}
use Rattle.jav_names.specs.Views.{ViewDeclaration}
use Rattle.mol_resolve_members.specs.places.Listings.{key_of}
use Rattle.mol_resolve_members.specs.numbers.Ways.{last_along}
use Rattle.mol_resolve_members.proofs.numbers_lemmas.TopKeys.{top-of-method}
use Rattle.mol_resolve_members.proofs.numbers.tops.top_on_way.Goals as goal

abbrev key_or : Option (ViewDeclaration ℕ MemberKey) → MemberKey → MemberKey
key_or found key = option_map_or (λ (declared : ViewDeclaration ℕ MemberKey). declared.key) found key

some-key : (found : Option (ViewDeclaration ℕ MemberKey)) (last : MemberRef) (key : MemberKey)
    → Some last ≡ option_map declaration_ref found → key_of last ≡ key_or found key
some-key None last key is = absurd cc
some-key (Some declared) last key is = let same : last ≡ declaration_ref declared = cc in ap key_of same

own-key : (found : Option (ViewDeclaration ℕ MemberKey)) (key : MemberKey) → None ≡ option_map declaration_ref found
    → key ≡ key_or found key
own-key None key is = refl
own-key (Some declared) key is = absurd cc

pub last_declared-requires : goal.last_declared-requires
last_declared-requires c = record { class = c.args.at.unit; is = c.requires.way }

pub returns-in-Some : goal.returns-in-Some
returns-in-Some c =
    let view = view_in c.args.scope.now in
    let method = c.args.method.now in
    let key = key_of c.args.at in
    let arity : c.in_ok-arity.arity ≡ length method.params = c.in_ok-arity.ensures.ok ∙ ap length c.items.ensures in
    some-key (last_along view method.name c.in_ok-arity.arity c.args.way.now) c.in-Some.last key c.in-Some.ensures
    ∙ (λ i. key_or (last_along view method.name (arity i) (c.requires.way i)) key)
    ∙ sym (top-of-method c.args.scope.now c.args.at.unit c.args.at.member method c.requires.method)

pub returns-in-None : goal.returns-in-None
returns-in-None c =
    let view = view_in c.args.scope.now in
    let method = c.args.method.now in
    let key = key_of c.args.at in
    let arity : c.in_ok-arity.arity ≡ length method.params = c.in_ok-arity.ensures.ok ∙ ap length c.items.ensures in
    own-key (last_along view method.name c.in_ok-arity.arity c.args.way.now) key c.in-None.ensures
    ∙ (λ i. key_or (last_along view method.name (arity i) (c.requires.way i)) key)
    ∙ sym (top-of-method c.args.scope.now c.args.at.unit c.args.at.member method c.requires.method)
