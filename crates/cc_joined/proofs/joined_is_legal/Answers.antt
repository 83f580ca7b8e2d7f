use Rattle.cc_joined.proofs.Joined.{joined_is_legal, joined_sends, joined_takes}
use Rattle.cc_joined.proofs.joined_is_legal.Goals as goal

pub returns-clause-legal : goal.returns-clause-legal
returns-clause-legal c = joined_is_legal

pub returns-clause-sends : goal.returns-clause-sends
returns-clause-sends c = joined_sends

pub returns-clause-takes : goal.returns-clause-takes
returns-clause-takes c = joined_takes
