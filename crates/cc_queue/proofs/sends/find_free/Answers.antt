use Rattle.std.proofs.Common.{◌≡◌, ◌+◌, ◌-◌, refl, ap, arith}
use Rattle.cc_queue.specs.Names.{Config}
use Rattle.cc_queue.proofs.Scan.{all_used, frees_by, frees_on, from_start, same_capacity, scans_at, scans_on}
use Rattle.cc_queue.proofs.Service.{own_config, still_here}
use Rattle.cc_queue.proofs.sends.find_free.Goals as goal

pub look-here-requires : goal.look-here-requires
look-here-requires c =
    let own = ap (λ (x : Config). x.capacity) (own_config _ c.args.seat.now _ c.requires.here.here c.config.ensures.config) in
    record {
      here = c.requires.here;
      within = omega (arith, c.requires.cursor);
      few = omega arith;
      fits = omega (arith, c.requires.cursor, own);
      at = c.requires.at;
      ready = c.requires.ready;
    }

pub returns-then-here-eq0 : goal.returns-then-here-eq0
returns-then-here-eq0 c =
    record {
      free = frees_by c.args.seat.now _ c.args.job c.args.parcel _ _ _ _ (c.look-here.ensures.free (omega (arith, c.if-here-eq0.true))) (omega (arith, c.if-here-eq0.true)) (omega arith);
      full = tt;
      ready = c.look-here.ensures.ready;
    }

pub look_by_four-used-requires : goal.look_by_four-used-requires
look_by_four-used-requires c =
    let own = ap (λ (x : Config). x.capacity) (own_config _ c.args.seat.now _ c.requires.here.here c.config.ensures.config) in
    let one : c.look-here.result ≡ 1 = omega (arith, c.look-here.ensures.most, c.if-here-eq0.false) in
    let part = c.look-here.ensures.none one in
    let same = same_capacity c.args.seat.now _ c.args.job c.args.parcel _ _ _ part in
    record {
      here = still_here _ _ c.args.seat.now _ _ _ c.requires.here part;
      within = omega (arith, c.requires.cursor, own, same);
      few = omega (arith, c.requires.cursor, own, same);
      fits = (omega (arith, c.requires.cursor, own), omega (arith, c.requires.cursor, own));
      at = scans_at c.args.seat.now _ c.args.job c.args.parcel _ _ _ part;
      ready = c.look-here.ensures.ready;
    }

pub returns-then-used-ahead : goal.returns-then-used-ahead
returns-then-used-ahead c =
    let own = ap (λ (x : Config). x.capacity) (own_config _ c.args.seat.now _ c.requires.here.here c.config.ensures.config) in
    let one : c.look-here.result ≡ 1 = omega (arith, c.look-here.ensures.most, c.if-here-eq0.false) in
    let part = c.look-here.ensures.none one in
    record {
      free = frees_on c.args.seat.now _ c.args.job c.args.parcel _ _ _ part _ _ _ (omega (arith, c.requires.cursor, own)) _ _ (c.look_by_four-used.ensures.free c.if-used-ahead.true) (omega arith);
      full = tt;
      ready = c.look_by_four-used.ensures.ready;
    }

pub look_by_four-behind-requires : goal.look_by_four-behind-requires
look_by_four-behind-requires c =
    let own = ap (λ (x : Config). x.capacity) (own_config _ c.args.seat.now _ c.requires.here.here c.config.ensures.config) in
    let one : c.look-here.result ≡ 1 = omega (arith, c.look-here.ensures.most, c.if-here-eq0.false) in
    let used = c.look_by_four-used.ensures in
    let all : c.look_by_four-used.result ≡ (c.config.result.now.capacity - c.args.cursor) = omega (arith, used.most, c.if-used-ahead.false) in
    let both = scans_on c.args.seat.now _ c.args.job c.args.parcel _ _ _ (c.look-here.ensures.none one) _ _ (1 + (c.config.result.now.capacity - c.args.cursor)) (omega arith) _ _ _ _ (used.none all) refl refl in
    let part = from_start c.args.seat.now _ c.args.job c.args.parcel _ _ (c.config.result.now.capacity - c.args.cursor + 1) _ (omega (arith, c.requires.cursor, own)) (omega arith) both in
    let same = same_capacity c.args.seat.now _ c.args.job c.args.parcel _ _ _ part in
    record {
      here = still_here _ _ c.args.seat.now _ _ _ c.requires.here part;
      within = omega (arith, c.requires.cursor, same);
      few = omega (arith, c.requires.cursor, own, same);
      fits = (omega (arith, c.requires.cursor, own), omega (arith, c.requires.cursor, own));
      at = scans_at c.args.seat.now _ c.args.job c.args.parcel _ _ _ part;
      ready = used.ready;
    }

pub returns-then-behind-cursor : goal.returns-then-behind-cursor
returns-then-behind-cursor c =
    let own = ap (λ (x : Config). x.capacity) (own_config _ c.args.seat.now _ c.requires.here.here c.config.ensures.config) in
    let one : c.look-here.result ≡ 1 = omega (arith, c.look-here.ensures.most, c.if-here-eq0.false) in
    let used = c.look_by_four-used.ensures in
    let all : c.look_by_four-used.result ≡ (c.config.result.now.capacity - c.args.cursor) = omega (arith, used.most, c.if-used-ahead.false) in
    let both = scans_on c.args.seat.now _ c.args.job c.args.parcel _ _ _ (c.look-here.ensures.none one) _ _ (1 + (c.config.result.now.capacity - c.args.cursor)) (omega arith) _ _ _ _ (used.none all) refl refl in
    let part = from_start c.args.seat.now _ c.args.job c.args.parcel _ _ (c.config.result.now.capacity - c.args.cursor + 1) _ (omega (arith, c.requires.cursor, own)) (omega arith) both in
    record {
      free = frees_on c.args.seat.now _ c.args.job c.args.parcel _ _ _ part _ _ _ (omega (arith, c.requires.cursor, own)) _ _ (c.look_by_four-behind.ensures.free c.if-behind-cursor.true) (omega arith);
      full = tt;
      ready = c.look_by_four-behind.ensures.ready;
    }

pub returns : goal.returns
returns c =
    let own = ap (λ (x : Config). x.capacity) (own_config _ c.args.seat.now _ c.requires.here.here c.config.ensures.config) in
    let one : c.look-here.result ≡ 1 = omega (arith, c.look-here.ensures.most, c.if-here-eq0.false) in
    let used = c.look_by_four-used.ensures in
    let behind = c.look_by_four-behind.ensures in
    let all : c.look_by_four-used.result ≡ (c.config.result.now.capacity - c.args.cursor) = omega (arith, used.most, c.if-used-ahead.false) in
    let rest : c.look_by_four-behind.result ≡ c.args.cursor = omega (arith, behind.most, c.if-behind-cursor.false) in
    let both = scans_on c.args.seat.now _ c.args.job c.args.parcel _ _ _ (c.look-here.ensures.none one) _ _ (1 + (c.config.result.now.capacity - c.args.cursor)) (omega arith) _ _ _ _ (used.none all) refl refl in
    let part = from_start c.args.seat.now _ c.args.job c.args.parcel _ _ (c.config.result.now.capacity - c.args.cursor + 1) _ (omega (arith, c.requires.cursor, own)) (omega arith) both in
    record {
      free = tt;
      full = all_used c.args.seat.now _ c.args.job c.args.parcel _ _ _ (omega (arith, c.requires.cursor, own)) (scans_on c.args.seat.now _ c.args.job c.args.parcel _ _ _ part _ _ (c.args.seat.now.setting.config.capacity + 1) (omega (arith, c.requires.cursor, own)) _ _ c.args.cursor (c.config.result.now.capacity - c.args.cursor + 1 + c.args.cursor) (behind.none rest) (omega arith) refl);
      ready = behind.ready;
    }
