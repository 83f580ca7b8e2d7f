use Rattle.cc_queue.proofs.Scan.{begins, cursor_low, scan_begins}
use Rattle.cc_queue.proofs.Service.{still_here}
use Rattle.cc_queue.proofs.sends.scan.Goals as goal

pub find_free-requires : goal.find_free-requires
find_free-requires c =
    let look = c.read_object-cursor.ensures in
    let here = c.requires.here in
    record {
      here = still_here _ _ c.args.seat.now _ _ _ here (begins c.args.seat.now _ c.args.job c.args.parcel _ c.requires.at look.found look.step);
      cursor = cursor_low c.args.seat.now _ c.args.job c.args.parcel _ c.requires.at look.found look.step _ _ here;
      at = scan_begins c.args.seat.now _ c.args.job c.args.parcel _ c.requires.at look.found look.step _ _ here;
      ready = look.found.walked.ready;
    }
