mod WorkedPorts
