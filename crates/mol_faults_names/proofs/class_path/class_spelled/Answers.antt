use Rattle.mol_faults_names.proofs.ClassPaths.{path-front, path-none, path-whole}
use Rattle.mol_faults_names.proofs.class_path.class_spelled.Goals as goal

pub returns-then-spelling-count : goal.returns-then-spelling-count
returns-then-spelling-count c = path-whole c.args.count c.args.spelling c.args.class.now c.if-spelling-count.true

pub returns-then-count-spelling : goal.returns-then-count-spelling
returns-then-count-spelling c = path-front c.args.count c.args.spelling c.args.class.now c.if-spelling-count.false c.if-count-spelling.true

pub returns-else-count-spelling : goal.returns-else-count-spelling
returns-else-count-spelling c = path-none c.args.count c.args.spelling c.args.class.now c.if-spelling-count.false c.if-count-spelling.false
