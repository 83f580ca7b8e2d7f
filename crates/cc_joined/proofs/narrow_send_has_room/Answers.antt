use Rattle.cc_joined.proofs.Narrow.{last_place_counts, narrow_send_has_room}
use Rattle.cc_joined.proofs.narrow_send_has_room.Goals as goal

pub returns-clause-counts : goal.returns-clause-counts
returns-clause-counts c = last_place_counts

pub returns-clause-room : goal.returns-clause-room
returns-clause-room c = narrow_send_has_room
