-- No wake-up is lost.
use Rattle.std.proofs.Common.{◌≡◌, ◌+◌, ◌<◌, ◌≤◌, List, [], ◌∷◌, inl, inr, refl, arith}
use Rattle.std.proofs.lemmas.Bool.{cases_lt}
use Rattle.cc_waits.specs.Line.{Line, LineEvent, line_after, LineMay, line_of, IsLineRun, NoWakeUpIsLost, ThingsAreOwed}

-- Each call in line is counted once. If a call in line isn't notified and doesn't look or leave, then each thing is owed by some thread, and the
-- queue is open, or a thread is about to notify all. If a call sleeps, each notification has a call that is awake, or is to wake one.
record Holds (s : Line) : Type 0 where
  counts : s.looking + s.leaving + s.parking + s.sleeping ≡ s.waiting + s.notified
  debts : s.closing ≡ 0 → s.looking + s.leaving < s.waiting → s.things ≤ s.notified + s.retrying + s.refused + s.owed
  ends : 0 < s.closes → s.closing ≡ 0 → s.waiting ≤ s.looking + s.leaving
  awake : 0 < s.sleeping → s.notified ≤ s.parking + s.wakes

module _ (s : Line) (h : Holds s) where
  more : (e : LineEvent) → LineMay s e → Holds (line_after s e)
  more (LineEvent.Makes n) may = record { counts = h.counts; debts = λ none less. omega (arith, h.debts none less); ends = h.ends; awake = h.awake }
  more LineEvent.Takes may = record { counts = h.counts; debts = λ none less. omega (arith, h.debts none less); ends = h.ends; awake = h.awake }
  more (LineEvent.Notifies n) may = elim (cases_lt n s.waiting) [
    | inl some ↦ record {
      counts = omega (arith, h.counts, some);
      debts = λ none less. omega (arith, h.debts none (omega (arith, less, some)), may, some);
      ends = λ closed none. omega (arith, h.ends closed none, some);
      awake = λ asleep. omega (arith, h.awake asleep, some);
    }
    | inr all ↦ record {
      counts = omega (arith, h.counts, all);
      debts = λ none less. absurd (omega (arith, less, all));
      ends = λ closed none. omega (arith, all);
      awake = λ asleep. omega (arith, h.awake asleep, all);
    }
  ]
  more LineEvent.Closes may = record { counts = h.counts; debts = λ none less. absurd (omega (arith, none)); ends = λ closed none. absurd (omega (arith, none)); awake = h.awake }
  more LineEvent.NotifiesAll may = record {
    counts = omega (arith, h.counts);
    debts = λ none less. absurd (omega (arith, less));
    ends = λ closed none. omega arith;
    awake = λ asleep. omega (arith, h.awake asleep);
  }
  more LineEvent.PassesOn may = elim (cases_lt 0 s.waiting) [
    | inl some ↦ record {
      counts = omega (arith, h.counts, some);
      debts = λ none less. omega (arith, h.debts none (omega (arith, less, some)), may, some);
      ends = λ closed none. omega (arith, h.ends closed none, some);
      awake = λ asleep. omega (arith, h.awake asleep, some);
    }
    | inr empty ↦ record {
      counts = omega (arith, h.counts, empty);
      debts = λ none less. absurd (omega (arith, less, empty));
      ends = λ closed none. omega (arith, empty);
      awake = λ asleep. omega (arith, h.awake asleep, empty);
    }
  ]
  more (LineEvent.Wakes n) may = elim (cases_lt n s.sleeping) [
    | inl some ↦ record { counts = omega (arith, h.counts, some); debts = h.debts; ends = h.ends; awake = λ asleep. omega (arith, h.awake (omega (arith, some)), may, some) }
    | inr all ↦ record { counts = omega (arith, h.counts, all); debts = h.debts; ends = h.ends; awake = λ asleep. absurd (omega (arith, all, asleep)) }
  ]
  more LineEvent.Joins may = record {
    counts = omega (arith, h.counts);
    debts = λ none less. h.debts none (omega (arith, less));
    ends = λ closed none. omega (arith, h.ends closed none);
    awake = h.awake;
  }
  more LineEvent.LookFinds may = record {
    counts = omega (arith, h.counts, may.0);
    debts = λ none less. omega (arith, h.debts none (omega (arith, less, may.0)));
    ends = λ closed none. omega (arith, h.ends closed none, may.0);
    awake = h.awake;
  }
  more LineEvent.LookFindsNone may = record {
    counts = omega (arith, h.counts, may.0);
    debts = λ none less. omega (arith, may.1);
    ends = λ closed none. absurd (omega (arith, closed, may.2));
    awake = λ asleep. omega (arith, h.awake asleep);
  }
  more LineEvent.LookEnds may = record {
    counts = omega (arith, h.counts, may.0);
    debts = λ none less. h.debts none (omega (arith, less, may.0));
    ends = λ closed none. omega (arith, h.ends closed none, may.0);
    awake = h.awake;
  }
  more LineEvent.LookIsRefused may = record {
    counts = omega (arith, h.counts, may);
    debts = λ none less. omega (arith, h.debts none (omega (arith, less, may)));
    ends = λ closed none. omega (arith, h.ends closed none, may);
    awake = h.awake;
  }
  more LineEvent.Leaves may = elim (cases_lt 0 s.waiting) [
    | inl some ↦ record {
      counts = omega (arith, h.counts, may, some);
      debts = λ none less. omega (arith, h.debts none (omega (arith, less, may, some)), some);
      ends = λ closed none. omega (arith, h.ends closed none, may, some);
      awake = λ asleep. omega (arith, h.awake asleep);
    }
    | inr empty ↦ record {
      counts = omega (arith, h.counts, may, empty);
      debts = λ none less. absurd (omega (arith, less, empty));
      ends = λ closed none. omega (arith, empty);
      awake = λ asleep. omega (arith, h.awake asleep);
    }
  ]
  more LineEvent.Sleeps may = record { counts = omega (arith, h.counts, may.0); debts = h.debts; ends = h.ends; awake = λ asleep. omega (arith, may.1) }
  more LineEvent.Stirs may = record { counts = omega (arith, h.counts, may); debts = h.debts; ends = h.ends; awake = λ asleep. omega (arith, h.awake may) }
  more LineEvent.UsesNote may = record {
    counts = omega (arith, h.counts, may.0, may.1);
    debts = λ none less. omega (arith, h.debts none less, may.1);
    ends = h.ends;
    awake = λ asleep. omega (arith, h.awake asleep, may.0, may.1);
  }
  more LineEvent.GivesUp may = record {
    counts = omega (arith, h.counts, may.0, may.1);
    debts = λ none less. h.debts none (omega (arith, less));
    ends = λ closed none. omega (arith, h.ends closed none);
    awake = λ asleep. omega (arith, may.1);
  }
  more LineEvent.RetryFinds may = record { counts = h.counts; debts = λ none less. omega (arith, h.debts none less, may.0, may.1); ends = h.ends; awake = h.awake }
  more LineEvent.RetryFindsNone may = record { counts = h.counts; debts = λ none less. omega (arith, may.1); ends = h.ends; awake = h.awake }
  more LineEvent.RetryEnds may = record { counts = h.counts; debts = λ none less. absurd (omega (arith, less, h.ends may.1 none)); ends = h.ends; awake = h.awake }
  more LineEvent.RetryIsRefused may = record { counts = h.counts; debts = λ none less. omega (arith, h.debts none less, may); ends = h.ends; awake = h.awake }

holds : (events : List LineEvent) → IsLineRun events → Holds (line_of events)
holds [] run = record { counts = refl; debts = λ none less. omega arith; ends = λ closed none. omega arith; awake = λ asleep. omega arith }
holds (e ∷ events) run = more (line_of events) (holds events run.0) e run.1

-- Where no thread has a step to make, the calls in line that aren't notified sleep, and there is nothing for them.
at_rest : (s : Line) → Holds s → s.looking + s.leaving + s.parking + s.retrying + s.refused + s.owed + s.closing + s.wakes ≡ 0 → 0 < s.sleeping → s.things + s.closes ≡ 0
at_rest s h rest asleep =
    let waits : s.looking + s.leaving < s.waiting = omega (arith, h.counts, h.awake asleep, asleep, rest) in
    let no_thing : s.things ≡ 0 = omega (arith, h.debts (omega (arith, rest)) waits, h.awake asleep, rest) in
    elim (cases_lt 0 s.closes) [
      | inl closed ↦ absurd (omega (arith, h.ends closed (omega (arith, rest)), waits))
      | inr none ↦ omega (arith, none, no_thing)
    ]

pub no_wake_up_is_lost : NoWakeUpIsLost
no_wake_up_is_lost events run rest asleep =
    let none : (line_of events).things + (line_of events).closes ≡ 0 =
    at_rest (line_of events) (holds events run) (omega (arith, rest.looking, rest.leaving, rest.parking, rest.retrying, rest.refused, rest.owed, rest.closing, rest.wakes)) asleep in
    (omega (arith, none), omega (arith, none))

pub things_are_owed : ThingsAreOwed
things_are_owed events run asleep some =
    let s : Line = line_of events in
    elim (cases_lt 0 (s.looking + s.leaving + s.parking + s.retrying + s.refused + s.owed + s.closing + s.wakes)) [
      | inl some_step ↦ some_step
      | inr none ↦ absurd (omega (arith, some, at_rest s (holds events run) (omega (arith, none)) asleep))
    ]
