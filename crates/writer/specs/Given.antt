-- What is given to the writer, as the fields of a chart. Rules 15.3 and 15.4. The rules that are asked of them are the reader's (`field_cases`):
-- here is only where the fields come from, and what stands for the length. Choices: edition and spare bits are not given, and are what rule 1.2
-- allows; past its end a list counts as 0, and no answer depends on that.
use Rattle.std.specs.Prelude.{ℕ, Bool, ◌&&◌, List, ◌≡◌, length, get_or, eqb}
use Rattle.writer.specs.declared.heading.Heading.{Heading}
use Rattle.chart.specs.declared.headers.HeaderFields.{HeaderFields}
use Rattle.chart.specs.declared.records.RecordFields.{RecordFields}

-- Rule 15.3: for each field of a record the list of it, node by node.
pub record NodeLists : Type 0 where
  pub kinds : List ℕ
  pub addresses : List ℕ
  pub sizes : List ℕ
  pub outs : List ℕ
  pub firsts : List ℕ
  pub seconds : List ℕ

-- Rule 15.3: the fields of the header.
abbrev pub header_given : Heading → HeaderFields
header_given heading =
    record {
      edition = 1;
      line = heading.line;
      sets = heading.sets;
      ways = heading.ways;
      start = heading.start;
      first_spare = 0;
      nodes = heading.nodes;
      entry = heading.entry;
      second_spare = 0;
    }

-- Rule 15.3: the fields of node n's record.
abbrev pub listed : NodeLists → ℕ → RecordFields
listed lists n =
    record {
      kind = get_or lists.kinds n 0;
      address = get_or lists.addresses n 0;
      outs = get_or lists.outs n 0;
      first = get_or lists.firsts n 0;
      second = get_or lists.seconds n 0;
      size = get_or lists.sizes n 0;
    }

-- Rule 15.4: whether each list has so many numbers.
abbrev pub all_long : ℕ → NodeLists → Bool
all_long count lists =
    eqb (length lists.kinds) count
    && (eqb (length lists.addresses) count
    && (eqb (length lists.sizes) count
    && (eqb (length lists.outs) count
    && (eqb (length lists.firsts) count
    && eqb (length lists.seconds) count))))

-- Rule 15.4 as a statement: each list has so many numbers.
pub record AllLong (count : ℕ) (lists : NodeLists) : Type 0 where
  pub kinds : length lists.kinds ≡ count
  pub addresses : length lists.addresses ≡ count
  pub sizes : length lists.sizes ≡ count
  pub outs : length lists.outs ≡ count
  pub firsts : length lists.firsts ≡ count
  pub seconds : length lists.seconds ≡ count
