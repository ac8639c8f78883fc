use Rattle.std.proofs.lemmas.Str.{IsUtf8-from_ascii}
use Rattle.mol_base.proofs.Tags.{IsAscii-tag}
use Rattle.mol_base.proofs.tag.Tag.as_str.Goals as goal

pub unreachable-requires : goal.unreachable-requires
unreachable-requires c = c.in-Err.ensures.cases.0 (rw c.bytes.ensures.bytes (IsUtf8-from_ascii c.args.self.now (IsAscii-tag c.args.self.now c.bytes.ensures.tag.1)))
