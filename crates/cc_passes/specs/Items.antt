-- Items as C gets them: of one word, or of up to four.
use Rattle.std.specs.Prelude.{ℕ, Bool, ◌&&◌, nat_lt, nat_le, [], ◌∷◌, length}
use Rattle.cc_model.specs.Body.{words_of}
use Rattle.cc_runs.specs.Codes.{words_in}
use Rattle.cc_passes.specs.Names.{Item, TakenItem, TakenWords}

-- a body may have this number of words
abbrev pub are_few : ℕ → Bool
are_few words = nat_lt 0 words && nat_le words 4

-- a form of items: how many words of a body it has room for, no item, and an item of the queue
pub record Form (I : Type 0) : Type 0 where
  pub room : ℕ
  pub none : I
  pub of : Item → I

-- of a body the first word, which is all of it in a queue of bodies of one word
abbrev pub one_word : Form TakenItem
one_word = record {
  room = 1;
  none = record { place = 0; sender = 0; number = 0; body = 0 };
  of = λ item. record { place = item.place; sender = item.sender; number = item.number; body = (words_in item.body).first };
}

-- of a body all words, and 0 after them
abbrev pub all_words : Form TakenWords
all_words = record {
  room = 4;
  none = record { place = 0; sender = 0; number = 0; count = 0; words = 0 ∷ 0 ∷ 0 ∷ 0 ∷ [] };
  of = λ item. record {
    place = item.place;
    sender = item.sender;
    number = item.number;
    count = length (words_of item.body);
    words = (words_in item.body).first ∷ (words_in item.body).second ∷ (words_in item.body).third ∷ (words_in item.body).fourth ∷ [];
  };
}
