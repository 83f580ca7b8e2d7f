use Rattle.std.proofs.Common.{◌≡◌, ◌≤◌, ◌-◌, ◌∙◌, nat_eq, length, refl, take, drop, sym, arith}
use Rattle.std.specs.Vec.{with_items}
use Rattle.cc_log.proofs.Ahead.{filled, held_none, refilled}
use Rattle.cc_log.proofs.lines.Lines.fill.Goals as goal

pub returns-in-Ok-clause-passes : goal.returns-in-Ok-clause-passes
returns-in-Ok-clause-passes g c =
    let short : c.in-Ok.n ≤ length c.read_some.new.buffer = c.in-Ok.ensures.bound in
    let fits : c.in-Ok.n ≤ c.args.self.now.chunk.len = omega arith in
    filled c.args.self.now (record { chunk = with_items c.args.self.now.chunk c.read_some.new.buffer; start = 0; end = c.in-Ok.n; ended = nat_eq c.in-Ok.n 0 })
    (g.R.Source.bytes_left c.args.source.now) (g.R.Source.bytes_left c.read_some.new.self) (take c.in-Ok.n c.read_some.new.buffer)
    (held_none c.args.self.now.chunk.items c.args.self.now.start c.args.self.now.end c.requires.empty) c.requires.reads
    (refilled c.in-Ok.n c.args.self.now.chunk.len c.read_some.new.buffer (drop (length c.read_some.new.buffer) c.args.self.now.chunk.items) short fits)
    c.in-Ok.ensures.bytes.0
