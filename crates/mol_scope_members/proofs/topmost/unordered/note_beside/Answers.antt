use Rattle.std.proofs.Common.{◌≡◌, ◌∙◌, ◌||◌, ◌&&◌, Bool, true, false, cond, not, Some, List, refl, sym, ap}
use Rattle.std.specs.Cmp.{eq_by_cmp_equiv}
use Rattle.std.specs.List.{list_any}
use Rattle.mol_base.specs.Order.{id_cmp-total}
use Rattle.mol_base.specs.declared.ident.Id.{Id}
use Rattle.mol_table_rules.proofs.Living.{id_tied}
use Rattle.mol_table_rules.specs.Counting.{is_of, living_of}
use Rattle.mol_table_rules.specs.Program.{Program, same_id}
use Rattle.mol_values_types.proofs.Ties.{id_ties, any_tied}
use Rattle.mol_scope_members.specs.topmost.Highest.{is_under, stands_beside}
use Rattle.mol_scope_members.proofs.topmost.unordered.note_beside.Goals as goal

module _ (program : Program) (tops : List (Id × Id)) (decl own : Id) (living : living_of program decl ≡ Some own) (under : Bool)
    (is : is_under program tops own decl ≡ under) where
  -- it is a declaration of its own method alone
  its-own : (method : Id) (b : Bool) → same_id method own ≡ b → stands_beside program tops method decl ≡ (b && not under)
  its-own method true same =
      ap (λ o. is_of method o && not (is_under program tops method decl)) living
      ∙ (λ i. same i && not (is_under program tops (id_tied method own same i) decl)) ∙ ap not is
  its-own method false apart =
      ap (λ o. is_of method o && not (is_under program tops method decl)) living
      ∙ ap (λ b. b && not (is_under program tops method decl)) apart

kept : (a b c : Bool) → c ≡ (b && false) → a ≡ (a || c)
kept true b c is = refl
kept false true c is = sym is
kept false false c is = sym is

grown : (a b c : Bool) → c ≡ (b && true) → cond b true a ≡ (a || c)
grown true true c is = refl
grown true false c is = refl
grown false true c is = sym is
grown false false c is = sym is

pub returns-then-is_under : goal.returns-then-is_under
returns-then-is_under c =
    let program = c.args.table.now in
    let tops = c.args.tops.now.entries in
    let decl : Id = c.args.decl.now in
    let own : Id = c.in-Some.method in
    λ (method : Id). kept (list_any (same_id method) c.args.methods.now.keys) (same_id method own)
    (stands_beside program tops method decl)
    (its-own program tops decl own (sym c.living_method_of.ensures ∙ c.in-Some.is) true (sym c.is_under.ensures ∙ c.if-is_under.true)
    method (same_id method own) refl)

pub returns : goal.returns
returns c =
    let program = c.args.table.now in
    let tops = c.args.tops.now.entries in
    let decl : Id = c.args.decl.now in
    let own : Id = c.in-Some.method in
    let old = c.args.methods.now.keys in
    λ (method : Id).
    sym (any_tied (λ x. x) method c.insert.new.self.keys)
    ∙ c.in_ok-insert.ensures.updates.0 method
    ∙ (λ k. cond ((id_ties own method ∙ (eq_by_cmp_equiv id_cmp-total).symm own method) k) true
    (any_tied (λ x. x) method old k))
    ∙ grown (list_any (same_id method) old) (same_id method own) (stands_beside program tops method decl)
    (its-own program tops decl own (sym c.living_method_of.ensures ∙ c.in-Some.is) false (sym c.is_under.ensures ∙ c.if-is_under.false)
    method (same_id method own) refl)
