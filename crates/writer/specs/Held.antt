-- The lists of the nodes, as the functions that pack them hold them.
-- Nothing here is a rule of the tool: contracts say in a line what they promise.
use Rattle.writer.specs.Given.{NodeLists}
use Rattle.writer.specs.declared.nodes.Lists.{Lists}

abbrev pub lists_in : Lists → NodeLists
lists_in lists =
    record {
      kinds = lists.kinds.now;
      addresses = lists.addresses.now;
      sizes = lists.sizes.now;
      outs = lists.outs.now;
      firsts = lists.firsts.now;
      seconds = lists.seconds.now;
    }
