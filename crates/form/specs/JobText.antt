-- The sections of a job text (rules 7.1, 7.9, 7.17, 7.18 and 8.2).
--     nodes_section, lanes_section, closed_section, carriers_section, order_section, dwell_section    a section
--                  each, with its limits and what its entries are. That of the closed nodes and that of the
--                  dwell, which is one line, may be missing; where they stand, their count is 1 or more. The
--                  order has as many places as there are carriers
--     job_text      the form of a job text: the sections in their order
use Rattle.std.specs.Prelude.{[], ◌∷◌, true, false}
use Rattle.hall.specs.Limits.{node_limit, lane_limit, carrier_limit, dwell_limit}
use Rattle.form.specs.Sections.{Section, Form, between, like, none, lane, closed_node, move, place}
use Rattle.form.specs.Words.{NODES, LANES, CLOSED, CARRIERS, ORDER, DWELL}

abbrev pub nodes_section : Section
nodes_section = record { word = NODES; size = 0; optional = false; limits = between 1 node_limit; entry = none }

abbrev pub lanes_section : Section
lanes_section = record { word = LANES; size = 2; optional = false; limits = between 0 lane_limit; entry = lane }

abbrev pub closed_section : Section
closed_section =
    record { word = CLOSED; size = 1; optional = true; limits = between 1 node_limit; entry = closed_node }

abbrev pub carriers_section : Section
carriers_section =
    record { word = CARRIERS; size = 2; optional = false; limits = between 0 carrier_limit; entry = move }

abbrev pub order_section : Section
order_section =
    record { word = ORDER; size = 1; optional = false; limits = like CARRIERS carrier_limit; entry = place }

abbrev pub dwell_section : Section
dwell_section = record { word = DWELL; size = 0; optional = true; limits = between 1 dwell_limit; entry = none }

abbrev pub job_text : Form
job_text =
    nodes_section ∷ lanes_section ∷ closed_section ∷ carriers_section ∷ order_section ∷ dwell_section ∷ []
