-- What a chart gives the writer: its header and its nodes taken apart again. Rules 1.2, 2.1 to 2.3, 2.10 and 2.11 the other way round.
-- Choices: a write is kind 2, any other reference kind 1; a reference whose last byte is neither its first nor the next has size code 2.
use Rattle.std.specs.Prelude.{ℕ, ◌-◌, cond, eqb, None, Option, Some}
use Rattle.lists.specs.Lists.{list_of}
use Rattle.chart.specs.declared.headers.Header.{Header}
use Rattle.chart.specs.declared.records.Node.{Node}
use Rattle.chart.specs.declared.records.RecordFields.{RecordFields}
use Rattle.chart.specs.Header.{start_code}
use Rattle.chart.specs.Chart.{Chart}
use Rattle.writer.specs.declared.heading.Heading.{Heading}
use Rattle.writer.specs.Given.{NodeLists}
use Rattle.chart.specs.declared.records.Reference.{Reference}

-- Rule 1.2: the six numbers of a header.
abbrev pub heading_of : Header → Heading
heading_of header =
    record {
      line = header.geometry.line;
      sets = header.geometry.sets;
      ways = header.geometry.ways;
      start = start_code header.start;
      nodes = header.nodes;
      entry = header.entry;
    }

-- Rule 2.2: the kind.
abbrev pub kind_of : Option Reference → ℕ
kind_of None = 0
kind_of (Some reference) = cond reference.write 2 1

-- Rule 2.1: the address; a bare step has 0 (rule 2.3).
abbrev pub address_of : Option Reference → ℕ
address_of None = 0
address_of (Some reference) = reference.address

-- Rule 2.10: the size code of a reference that goes so many bytes beyond its first.
abbrev pub code_of : ℕ → ℕ
code_of more = cond (eqb more 0) 0 (cond (eqb more 1) 1 2)

-- Rules 2.10 and 2.11: the size code; a bare step has 0.
abbrev pub size_of : Option Reference → ℕ
size_of None = 0
size_of (Some reference) = code_of (reference.last - reference.address)

-- Rule 2.1: the fields of a node's record.
abbrev pub fields_of : Node Reference → RecordFields
fields_of node =
    record {
      kind = kind_of node.what;
      address = address_of node.what;
      outs = node.targets.outs;
      first = node.targets.first;
      second = node.targets.second;
      size = size_of node.what;
    }

-- The six lists of a chart.
abbrev pub lists_of : Chart → NodeLists
lists_of chart =
    record {
      kinds = list_of chart.header.nodes (λ n. (fields_of (chart.node n)).kind);
      addresses = list_of chart.header.nodes (λ n. (fields_of (chart.node n)).address);
      sizes = list_of chart.header.nodes (λ n. (fields_of (chart.node n)).size);
      outs = list_of chart.header.nodes (λ n. (fields_of (chart.node n)).outs);
      firsts = list_of chart.header.nodes (λ n. (fields_of (chart.node n)).first);
      seconds = list_of chart.header.nodes (λ n. (fields_of (chart.node n)).second);
    }
