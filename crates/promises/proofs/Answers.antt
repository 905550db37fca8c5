-- The number and values of each answer, from the laws of its crate. Assumes nothing.
use Rattle.builder.proofs.Answers.{add_values, add_refused_values}
use Rattle.construct.proofs.Exhausting as construct
use Rattle.finish.proofs.Answers.{finish_values}
use Rattle.point.proofs.AnswerLaws as point
use Rattle.filter.proofs.ExactLaws.{positive_values, fuse_values, positive_number, fuse_number}
use Rattle.filter.proofs.WrittenLaws.{whole_written, written_whole, refused_unwritten}
use Rattle.filter.proofs.BuiltLaws.{zero_accepts, built_values_is}
use Rattle.lines.proofs.Theorems.{room_values}
use Rattle.promises.specs.Answers.{Answers}

-- THEOREM: every answer
pub answers : Answers
answers = record {
  add = λ s buffer call. record {
    add_values = add_values s buffer call;
    add_refused_values = λ n. add_refused_values s buffer call;
  };
  construct = λ {hashes} {n} {wide} {narrow} {r} P. record {
    construct_values = construct.taken_values hashes n wide narrow r P;
    construct_refused_values = construct.ten_values hashes n wide narrow r P;
    ten_fails = construct.ten_fails hashes n wide narrow r P;
    fails_ten = construct.fails_ten hashes n wide narrow r P;
  };
  finish_values = finish_values;
  locating = λ body key. record {
    locate_place = point.locate_place body key;
    place_locate = point.place_locate body key;
    locate_numbers = point.locate_numbers body key;
    unlocated_values = point.unlocated_values;
  };
  opening = λ body key. record {
    open_record = point.open_record body key;
    record_open = point.record_open body key;
    open_numbers = point.open_numbers body key;
    unopened_values = point.unopened_values;
  };
  opening_record = λ body key p. record {
    record_versions = point.record_versions body key p;
    versions_record = point.versions_record body key p;
    record_numbers = point.record_numbers body key p;
  };
  getting = λ body size key limit. record {
    get_record = point.get_record body size key limit;
    record_get = point.record_get body size key limit;
    get_nothing = point.get_nothing body size key limit;
    nothing_get = point.nothing_get body size key limit;
    get_numbers = point.get_numbers body size key limit;
  };
  positive_values = positive_values;
  fuse_values = fuse_values;
  positive_number = positive_number;
  fuse_number = fuse_number;
  write = λ P. record {
    whole_written = whole_written P;
    written_whole = written_whole P;
    refused_unwritten = refused_unwritten;
  };
  build = λ P. record { zero_accepts = zero_accepts P; built_values_is = built_values_is P };
  room_values = room_values;
}
