use Rattle.std.proofs.Common.{◌≡◌, ◌∙◌, Bool, true, false, cond, Option, Some, refl, sym, ap, option_copied}
use Rattle.std.specs.FinMap.{get, from_entries, get-insert}
use Rattle.mol_base.specs.Order.{id_cmp, id_cmp-total, id_cmp-IsAntisymmetric}
use Rattle.mol_base.specs.declared.ident.Id.{Id}
use Rattle.mol_table_rules.proofs.Living.{id_tied}
use Rattle.mol_table_rules.specs.Program.{same_id}
use Rattle.mol_values_types.proofs.Lookups.{inserted, get_is}
use Rattle.mol_values_types.proofs.Ties.{id_ties}
use Rattle.mol_values_types.specs.Order.{id_eq}
use Rattle.mol_scope_members.specs.topmost.Highest.{first_or_higher, top_in}
use Rattle.mol_scope_members.proofs.topmost.highest.put_highest.Goals.{in-Some, in-None}
use Rattle.mol_scope_members.proofs.topmost.highest.put_highest.Goals as goal

-- what is put by what was noted of the method is put by what was noted of what is the same
moved : (noted : Id → Option Id) (put : Option Id → Id) (at method : Id) (b : Bool) → same_id at method ≡ b
    → cond b (Some (put (noted method))) (noted at) ≡ cond b (Some (put (noted at))) (noted at)
moved noted put at method true same = ap (λ m. Some (put (noted m))) (sym (id_tied at method same))
moved noted put at method false apart = refl

pub returns : goal.returns
returns c =
    let program = c.args.table.now in
    let tops = c.args.tops.now.entries in
    let method : Id = c.args.method in
    let decl : Id = c.args.decl.now in
    let found : option_copied c.get.result ≡ top_in tops method = c.get.ensures.value
    ∙ get_is id_cmp id_eq id_ties id_cmp-total method tops in
    let top : c.match-get.top ≡ first_or_higher program (top_in tops method) decl = elim c.match-get.branch [
      | in-Some w ↦ w.top-is ∙ w.higher-top.ensures
          ∙ ap (λ o. first_or_higher program o decl) (sym (ap option_copied w.in-Some.is) ∙ found)
      | in-None w ↦ w.top-is ∙ ap (λ o. first_or_higher program o decl) (sym (ap option_copied w.in-None.is) ∙ found)
    ] in
    let e = inserted id_cmp id_eq id_ties id_cmp-total id_cmp-IsAntisymmetric method c.match-get.top tops c.insert.new.self.entries
    c.in_ok-insert.ensures.updates.0 in
    λ (at : Id).
    ap (λ map. get map at) e ∙ get-insert id_cmp-total (from_entries {R = id_cmp} tops) method c.match-get.top at
    ∙ ap (λ x. cond (same_id at method) (Some x) (top_in tops at)) top
    ∙ moved (top_in tops) (λ o. first_or_higher program o decl) at method (same_id at method) refl
