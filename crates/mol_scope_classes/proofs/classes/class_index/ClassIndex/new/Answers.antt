use Rattle.std.proofs.Common.{rules, ◌∙◌, ap, subst, length}
use Rattle.std.proofs.lemmas.List.{length-map}
use Rattle.jav_names.specs.id_index.Seeking.{FindsSame}
use Rattle.mol_resolve_rules.specs.ProgramViews.{program_view}
use Rattle.mol_scope_classes.specs.classes.ClassEntries.{class_entry}
use Rattle.mol_scope_classes.proofs.classes.class_index.ClassIndex.new.Goals as goal

pub invariant_of-result : goal.invariant_of-result
invariant_of-result c = record {
  classes = subst (FindsSame c.in_ok-full_names.full_names) c.in_ok-entries.ensures c.in_ok-full_names.ensures;
  counted = c.len-count.ensures ∙ c.in_ok-entries.entries.ok.0 ∙ ap length c.in_ok-entries.ensures
      ∙ length-map (program_view c.args.table.now).classes.items class_entry;
  few = search rules;
}
