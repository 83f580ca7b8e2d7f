use Rattle.std.proofs.Common.{◌≡◌, ◌≤◌, ◌+◌, ◌*◌, arith}
use Rattle.cc_queue.proofs.Scan.{frees_on, same_capacity, scans_at, scans_on}
use Rattle.cc_queue.proofs.Service.{still_here}
use Rattle.cc_queue.proofs.sends.look_by_four.Goals as goal

pub look-used-requires : goal.look-used-requires
look-used-requires c =
    let part = c.loop-round.invariant.0 in
    let same = same_capacity c.args.seat.now c.loop-round.seat c.args._job c.args._parcel _ _ _ part in
    let four : 4 * c.loop-round.round + 4 ≤ c.args.count = omega (arith, c.loop-round-test.true) in
    record {
      here = still_here _ _ c.args.seat.now _ _ _ c.requires.here part;
      within = omega (arith, c.requires.within, four, same);
      few = omega (arith, c.requires.few, four, same);
      fits = omega (arith, c.requires.fits.0, four);
      at = scans_at c.args.seat.now c.loop-round.seat c.args._job c.args._parcel _ _ _ part;
      ready = c.loop-round.invariant.1;
    }

pub returns-then-used-lt4 : goal.returns-then-used-lt4
returns-then-used-lt4 c =
    let part = c.loop-round.invariant.0 in
    let four : 4 * c.loop-round.round + 4 ≤ c.args.count = omega (arith, c.loop-round-test.true) in
    record {
      most = omega (arith, four, c.if-used-lt4.true);
      free = λ less. frees_on c.args.seat.now c.loop-round.seat c.args._job c.args._parcel _ _ _ part _ 4 c.args.count four _ _ (c.look-used.ensures.free c.if-used-lt4.true) (omega arith);
      none = λ all. absurd (omega (arith, all, four, c.if-used-lt4.true));
      ready = c.look-used.ensures.ready;
    }

pub loop-round-preserved : goal.loop-round-preserved
loop-round-preserved c =
    let part = c.loop-round.invariant.0 in
    let four : 4 * c.loop-round.round + 4 ≤ c.args.count = omega (arith, c.loop-round-test.true) in
    let all : c.look-used.result ≡ 4 = omega (arith, c.look-used.ensures.most, c.if-used-lt4.false) in
    (scans_on c.args.seat.now c.loop-round.seat c.args._job c.args._parcel _ _ _ part _ 4 (4 * (c.loop-round.round + 1)) (omega arith) _ _ (c.args.first + 4 * (c.loop-round.round + 1)) (c.args._looked + 4 * (c.loop-round.round + 1)) (c.look-used.ensures.none all) (omega arith) (omega arith), c.look-used.ensures.ready, omega (arith, four))
