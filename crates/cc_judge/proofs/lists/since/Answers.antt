use Rattle.cc_judge.proofs.lists.since.Goals as goal

pub returns-in-Left : goal.returns-in-Left
returns-in-Left c = λ log at. rw c.in-Left.is (c.left_since.ensures log at)

pub returns-in-Taken : goal.returns-in-Taken
returns-in-Taken c = λ log at. rw c.in-Taken.is c.taken_since.ensures

pub returns-in-Sent : goal.returns-in-Sent
returns-in-Sent c = λ log at. rw c.in-Sent.is c.sent_since.ensures
