use Rattle.std.proofs.Common.{◌≡◌, List, length}
use Rattle.cc_judge.specs.Names.{Call}
use Rattle.cc_judge.specs.Room.{AreLastRooms, AreTimes, IsLastRoom}
use Rattle.cc_judge.proofs.room.last_rooms.Given as goal

abbrev pub invariant-loop-at : goal.invariant-loop-at
invariant-loop-at l = record {
  long : length l.rooms.items ≡ l.at;
  last : (calls : List Call) → AreTimes calls l.begins.items l.ends.items → IsLastRoom calls l.begins.items l.number l.at l.last;
  rooms : (calls : List Call) → AreTimes calls l.begins.items l.ends.items → AreLastRooms calls l.begins.items l.number l.rooms.items;
}
