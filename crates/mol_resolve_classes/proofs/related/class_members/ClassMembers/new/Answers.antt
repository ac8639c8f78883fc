use Rattle.mol_resolve_classes.proofs.related.class_members.ClassMembers.new.Goals as goal

pub returns : goal.returns
returns c = record {
  listed = c.in_ok-listed.listed.items;
  sorted = c.in_ok-signatures.ensures;
  signatures = c.in_ok-listed.ensures;
  methods = c.in_ok-methods.ensures;
  constructors = c.in_ok-constructors.ensures;
}
